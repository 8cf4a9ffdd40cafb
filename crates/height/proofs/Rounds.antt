-- Rounding to whole thousandths. Assumes nothing.
use Rattle.std.proofs.Common.{◌≡◌, ℕ, ◌*◌, ℤ, pos, ◌+ℤ◌, ap, ◌∙◌, lt_of_le_of_lt, mul-pos, arith, lit<, w64, SFits, to_z, of_z}
use lib.Signed.{shr_z, mag_shr}
use Rattle.std.proofs.lemmas.Int.{ints, to_z-of_z}
use Rattle.integers.proofs.Floor.{floor_is}
use Rattle.integers.proofs.Ring.{twice}
use Rattle.height.specs.Almanacs.{rounded}
use Rattle.height.specs.Promise.{RoundedNear}
use Rattle.height.specs.Spans.{unit}

-- a shift keeps a number within its width
shr_fits : (z : ℤ) (m : ℕ) → SFits w64 z → SFits w64 (shr_z z m)
shr_fits z m f = record { sfits = lt_of_le_of_lt (mag_shr z m) f.sfits }

-- half thousandths, and one more of them, fit by far
halves_fit : (z : ℤ) → SFits w64 z → SFits w64 (shr_z z 536870912 +ℤ pos 1)
halves_fit z f =
    let p = floor_is z 536870912 (lit< tt) in
    omega (arith, ints)

-- two roundings down, one after the other, are the one of the definition
pub halved : (z : ℤ) → shr_z (shr_z z 536870912 +ℤ pos 1) 2 ≡ rounded 1024 z
unfolding rounded
halved z =
    let p = floor_is z 536870912 (lit< tt) in
    let q = floor_is (shr_z z 536870912 +ℤ pos 1) 2 (lit< tt) in
    let r = floor_is (z +ℤ z +ℤ pos 1073741824) 2147483648 (lit< tt) in
    omega (arith, ints)

-- as the code has it
pub rounded_code : (z : ℤ) → SFits w64 z → to_z w64 (of_z w64 (shr_z (to_z w64 (of_z w64 (to_z w64 (of_z w64 (shr_z (to_z w64 (of_z w64 z)) 536870912)) +ℤ pos 1))) 2)) ≡ rounded 1024 z
rounded_code z f =
    ap (λ (x : ℤ). to_z w64 (of_z w64 (shr_z (to_z w64 (of_z w64 (to_z w64 (of_z w64 (shr_z x 536870912)) +ℤ pos 1))) 2))) (to_z-of_z w64 z f)
    ∙ ap (λ (x : ℤ). to_z w64 (of_z w64 (shr_z (to_z w64 (of_z w64 (x +ℤ pos 1))) 2))) (to_z-of_z w64 _ (shr_fits z 536870912 f))
    ∙ ap (λ (x : ℤ). to_z w64 (of_z w64 (shr_z x 2))) (to_z-of_z w64 _ (halves_fit z f))
    ∙ to_z-of_z w64 _ (shr_fits _ 2 (halves_fit z f))
    ∙ halved z

pub rounded_near : RoundedNear
unfolding rounded
rounded_near n h some =
    rw (twice h) (floor_is (h +ℤ h +ℤ pos (unit n)) (2 * unit n) (omega (arith, mul-pos some (mul-pos some some))))
