use Rattle.std.proofs.Common.{◌≡◌, codes, sym, ap, arith, rules}
use Rattle.std.proofs.lemmas.Slice.Eq.{text_from_reads}
use Rattle.replies.specs.Said.{one_word}
use Rattle.replies.proofs.answer.alone.Goals as goal

pub returns-in-hidden : goal.returns-in-hidden
returns-in-hidden c =
    let e : c.args.word.now ≡ codes "hidden" = text_from_reads c.args.word.now (codes "hidden") (omega arith) (search rules) in
    sym (ap one_word e)
