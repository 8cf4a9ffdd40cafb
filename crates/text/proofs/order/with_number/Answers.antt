use Rattle.std.proofs.Common.{◌≡◌, ℕ, List, Some, codes, sym, ap, ◌∙◌, arith, w64, SFits, rules}
use Rattle.std.proofs.lemmas.Int.{to_z-of_z}
use Rattle.std.proofs.lemmas.Slice.Eq.{text_from_reads}
use Rattle.text.specs.Orders.{keyed}
use Rattle.text.specs.declared.order.Order.TheVariants.{Height}
use Rattle.text.proofs.order.with_number.Goals as goal

pub returns-in-height : goal.returns-in-height
returns-in-height c =
    let f : SFits w64 c.args.n = c.ranges.n in
    let e : c.args.key.now ≡ codes "height" = text_from_reads c.args.key.now (codes "height") (omega arith) (search rules) in
    ap (λ z. Some (Height z)) (to_z-of_z w64 c.args.n f) ∙ sym (ap (λ (k : List ℕ). keyed k c.args.n) e)
