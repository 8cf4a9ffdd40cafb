-- Sums of numbers of size at most 2^55, as the code has them. Assumes nothing.
use Rattle.std.proofs.Common.{◌≡◌, ◌^◌, ◌≤◌, ℤ, ◌+ℤ◌, nat_abs, arith, w64, SFits, to_z, of_z}
use Rattle.std.proofs.lemmas.Int.{ints}

pub two_code : (x y : ℤ) → nat_abs x ≤ 2 ^ 55 → nat_abs y ≤ 2 ^ 55 → to_z w64 (of_z w64 (to_z w64 (of_z w64 x) +ℤ to_z w64 (of_z w64 y))) ≡ x +ℤ y
two_code x y p q = omega (arith, ints)

pub three_fit : (x y z : ℤ) → nat_abs x ≤ 2 ^ 55 → nat_abs y ≤ 2 ^ 55 → nat_abs z ≤ 2 ^ 55 → SFits w64 (to_z w64 (of_z w64 (to_z w64 (of_z w64 x) +ℤ to_z w64 (of_z w64 y))) +ℤ to_z w64 (of_z w64 z))
three_fit x y z p q r = omega (arith, ints)

pub three_code : (x y z : ℤ) → nat_abs x ≤ 2 ^ 55 → nat_abs y ≤ 2 ^ 55 → nat_abs z ≤ 2 ^ 55 → to_z w64 (of_z w64 (to_z w64 (of_z w64 (to_z w64 (of_z w64 x) +ℤ to_z w64 (of_z w64 y))) +ℤ to_z w64 (of_z w64 z))) ≡ x +ℤ y +ℤ z
three_code x y z p q r = omega (arith, ints)

pub alone : (x : ℤ) → nat_abs x ≤ 2 ^ 57 → to_z w64 (of_z w64 x) ≡ x
alone x p = omega (arith, ints)
