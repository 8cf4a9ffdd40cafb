use Rattle.std.proofs.Common.{◌≡◌, ℕ, ◌+◌, ◌-◌, ◌<◌, ◌≤◌, false, ap, ◌∙◌, subst, inl, inr, arith, w64, SFits}
use Rattle.std.proofs.lemmas.Int.{to_z-of_z}
use Rattle.std.proofs.lemmas.Bool.{cases_lt}
use Rattle.crossing.specs.Above.{over}
use Rattle.crossing.specs.Events.{happens}
use Rattle.sight.proofs.Happening.{happened}
use Rattle.sight.proofs.every.first_of_every.Goals as goal

pub returns-then-happens_now : goal.returns-then-happens_now
returns-then-happens_now g c =
    let f = over (g.S.Source.almanac c.args.source.now) c.args.level in
    let fl : SFits w64 c.args.level = c.ranges.level in (
      omega arith,
      omega arith,
      happened c.args.event f c.loop-tick.tick c.happens_now.result c.is_over-is.result c.loop-tick.was c.happens_now.ensures (simp to_z-of_z at c.is_over-is.ensures) (simp to_z-of_z at c.loop-tick.invariant.0) ∙ c.if-happens_now.true,
      simp to_z-of_z at c.loop-tick.invariant.1,
    )

-- one tick more
pub loop-tick-preserved : goal.loop-tick-preserved
loop-tick-preserved g c =
    let fl : SFits w64 c.args.level = c.ranges.level in
    let f = over (g.S.Source.almanac c.args.source.now) c.args.level in
    let t = c.loop-tick.tick in
    let e : t ≡ t + 1 - 1 = omega arith in
    let here : happens c.args.event f t ≡ false = happened c.args.event f t c.happens_now.result c.is_over-is.result c.loop-tick.was c.happens_now.ensures (simp to_z-of_z at c.is_over-is.ensures) (simp to_z-of_z at c.loop-tick.invariant.0) ∙ c.if-happens_now.false in
    let before : (u : ℕ) → c.args.from ≤ u → u < t → happens c.args.event f u ≡ false = simp to_z-of_z at c.loop-tick.invariant.1 in
    simp to_z-of_z (
      (simp to_z-of_z at c.is_over-is.ensures) ∙ ap f e,
      λ u p q. elim (cases_lt u t) [ inl h ↦ before u p h | inr h ↦ (let s : t ≡ u = omega arith in subst (λ (v : ℕ). happens c.args.event f v ≡ false) s here) ],
    )
