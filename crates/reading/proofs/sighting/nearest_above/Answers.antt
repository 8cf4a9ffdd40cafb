use Rattle.std.proofs.Common.{◌^◌, ◌<◌, ℤ, nat_abs, arith, lit≤, w64, SFits}
use mir.Syntax.{w128}
use Rattle.std.proofs.lemmas.Int.{ints, to_z-of_z}
use Rattle.binary.proofs.Stands.{not_negative_stands}
use Rattle.reading.proofs.sighting.nearest_above.Goals as goal

-- a number of 64 bits is well within the range of the statements on binary64 numbers
far : (z : ℤ) → SFits w64 z → nat_abs z < 2 ^ 500
far z f = omega (arith, ints)

pub returns-clause-plain : goal.returns-clause-plain
returns-clause-plain c =
    let h = c.args.above in
    let f = c.ranges.above in
    let wide : SFits w128 h = omega (arith, ints) in
    rw (simp to_z-of_z at c.nearest.ensures) (not_negative_stands 30 h (lit≤ tt) (far h f) c.requires)
