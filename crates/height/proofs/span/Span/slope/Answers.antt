use Rattle.std.proofs.Common.{◌≡◌, ◌^◌, ◌≤◌, ℤ, nat_abs, ◌∙◌, arith, w32, SFits, to_z, of_z, rules}
use Rattle.std.proofs.lemmas.Int.{ints}
use Rattle.height.specs.Spans.{slope}
use Rattle.height.proofs.span.Span.slope.Goals as goal

-- a number of 32 bits has its own size, which is at most 2^31
size : (x : ℤ) → SFits w32 x → (nat_abs (to_z w32 (of_z w32 x)) ≡ nat_abs x) × (nat_abs x ≤ 2 ^ 31)
size x f = omega (arith, ints)

pub returns-clause-value : goal.returns-clause-value
unfolding slope
returns-clause-value c =
    let fb : SFits w32 c.args.self.b = search rules in
    let fc : SFits w32 c.args.self.c = search rules in
    let fd : SFits w32 c.args.self.d = search rules in
    let b = c.unsigned_abs-b.ensures.value ∙ (size c.args.self.b fb).0 in
    let e = c.unsigned_abs-c.ensures.value ∙ (size c.args.self.c fc).0 in
    let d = c.unsigned_abs-d.ensures.value ∙ (size c.args.self.d fd).0 in
    omega (arith, b, e, d)
