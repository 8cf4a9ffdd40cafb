use Rattle.std.proofs.Common.{◌≡◌, ℕ, List, ℤ, Some, codes, sym, ap₂, ◌∙◌, w64, SFits, rules}
use Rattle.std.proofs.lemmas.Int.{to_z-of_z}
use Rattle.std.proofs.lemmas.Slice.Eq.{text_from_reads}
use Rattle.replies.specs.Said.{as_refusal, refusal_of}
use Rattle.replies.specs.declared.answer.Said.TheVariants.{Refused}
use Rattle.replies.proofs.answer.refusal.Goals as goal

pub returns-in_ok-place-in-refused-at : goal.returns-in_ok-place-in-refused-at
returns-in_ok-place-in-refused-at c =
    let n = c.in_ok-number-in-refused-at.field-0 in
    let z = c.in_ok-place-in-refused-at.field-0 in
    let f : SFits w64 n = search rules in
    let g : SFits w64 z = search rules in
    let k : c.args.key.now ≡ codes "refused" = text_from_reads c.args.key.now (codes "refused") (search rules) (search rules) in
    let a : c.args.at.now ≡ codes "at" = text_from_reads c.args.at.now (codes "at") (search rules) (search rules) in
    ap₂ (λ (x y : ℤ). Some (Refused x y)) (to_z-of_z w64 n f) (to_z-of_z w64 z g) ∙ ap₂ as_refusal c.in_ok-number-in-refused-at.ensures.value c.in_ok-place-in-refused-at.ensures
    ∙ sym (ap₂ (λ (x y : List ℕ). refusal_of x c.args.code.now y c.args.spot.now) k a)
