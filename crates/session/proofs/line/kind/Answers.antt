use Rattle.std.proofs.Common.{sym, ◌∙◌}
use Rattle.words.specs.Words.{words_left}
use Rattle.words.proofs.Splits.{word_some}
use Rattle.session.proofs.line.kind.Goals as goal

pub bounds-word-0 : goal.bounds-word-0
bounds-word-0 c =
    word_some c.args.line.now c.in-Some.word.now (words_left c.next.new.self) (sym c.new.ensures ∙ c.in-Some.ensures.steps)
