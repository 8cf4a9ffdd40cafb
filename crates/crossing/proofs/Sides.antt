-- On which side of a level a height is, and stays. Assumes nothing.
use Rattle.std.proofs.Common.{◌≡◌, ℕ, ◌+◌, ◌<◌, Bool, true, false, ℤ, pos, ◌-ℤ◌, ◌*ℤ◌, nat_abs, ◌≤ℤ◌, sym, refl, mul-le-mul_right, arith}
use lib.Signed.{le_z}
use borrow.Author.Differences.{ints, le_out}
use Rattle.height.specs.Almanacs.{height_at}
use Rattle.height.specs.Spans.{unit, height, slope}
use Rattle.height.proofs.Steps.{drift}
use Rattle.height.proofs.Ticks.{height_in_span}
use Rattle.crossing.specs.Above.{over}
use Rattle.crossing.specs.Promise.{MaySkip, LowerLine}

-- a height that moves by less than its distance from the level stays on its side
pub same_side : (x y level : ℤ) → nat_abs (y -ℤ x) < nat_abs (x -ℤ level) → le_z level y ≡ le_z level x
same_side x y level h = go (le_z level x) refl
  where
    go : (b : Bool) → le_z level x ≡ b → le_z level y ≡ b
    go true e = sym (omega (arith, ints))
    go false e = sym (omega (arith, ints))

pub may_skip : MaySkip
unfolding over
may_skip m level i u k j within le far =
    rw (height_in_span m i (u + j) (omega arith), height_in_span m i u (omega arith))
    (same_side (height m.fine (m.span i) u) (height m.fine (m.span i) (u + j)) level
    (omega (arith, drift m.fine (m.span i) u j (omega arith), mul-le-mul_right (slope m.fine (m.span i)) le, far)))

lower : (low high x : ℤ) (n : ℕ) → low ≤ℤ high → le_z (high *ℤ pos n) x ≡ true → le_z (low *ℤ pos n) x ≡ true
lower low high x n le h = sym (omega (arith, ints, mul-le-mul_right n (le_out low high le)))

pub lower_line : LowerLine
unfolding over
lower_line m low high t le h = lower low high (height_at m t) (unit m.fine) le h
