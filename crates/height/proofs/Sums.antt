-- Four products, each of size at most 2^55, and their sum, as the code has them. Assumes nothing.
use Rattle.std.proofs.Common.{◌≡◌, ℕ, ◌*◌, ◌^◌, ◌<◌, ◌≤◌, ℤ, pos, ◌+ℤ◌, ◌*ℤ◌, nat_abs, ap, ◌∙◌, mul-le-mul, arith, w32, w64, SFits, to_z, of_z}
use Rattle.std.proofs.lemmas.Int.{ints}
use Rattle.integers.proofs.Size.{size_times_le}

pub square_le : (u : ℕ) → u < 1024 → u * u ≤ 1046529
square_le u h = mul-le-mul {n₂ = 1023} {m₂ = 1023} (omega arith) (omega arith)

pub cube_le : (u : ℕ) → u < 1024 → u * (u * u) ≤ 1070599167
cube_le u h = mul-le-mul {n₂ = 1023} {m₂ = 1046529} (omega arith) (square_le u h)

-- a number of size at most 2^25 comes back from its bits
pub same : (x : ℤ) → nat_abs x ≤ 2 ^ 25 → to_z w32 (of_z w32 x) ≡ x
same x h = omega (arith, ints)

-- a product is the number's own, and of size at most 2^55
pub product : (x r : ℤ) (k : ℕ) → nat_abs x ≤ 2 ^ 25 → k ≤ 2 ^ 30 → r ≡ to_z w32 (of_z w32 x) *ℤ pos k → (r ≡ x *ℤ pos k) × (nat_abs r ≤ 2 ^ 55)
product x r k h l e =
    let p = e ∙ ap (λ (z : ℤ). z *ℤ pos k) (same x h) in
    (p, rw p (size_times_le x (pos k) (2 ^ 25) (2 ^ 30) h l))

pub sum_fits : (x y : ℤ) → nat_abs x ≤ 2 ^ 55 → nat_abs y ≤ 2 ^ 55 → SFits w64 (to_z w64 (of_z w64 x) +ℤ to_z w64 (of_z w64 y))
sum_fits x y p q = omega (arith, ints)

pub sums_fit : (x y z v : ℤ) → nat_abs x ≤ 2 ^ 55 → nat_abs y ≤ 2 ^ 55 → nat_abs z ≤ 2 ^ 55 → nat_abs v ≤ 2 ^ 55 → SFits w64 (to_z w64 (of_z w64 (to_z w64 (of_z w64 x) +ℤ to_z w64 (of_z w64 y))) +ℤ to_z w64 (of_z w64 (to_z w64 (of_z w64 z) +ℤ to_z w64 (of_z w64 v))))
sums_fit x y z v p q r s = omega (arith, ints)

pub sums_code : (x y z v : ℤ) → nat_abs x ≤ 2 ^ 55 → nat_abs y ≤ 2 ^ 55 → nat_abs z ≤ 2 ^ 55 → nat_abs v ≤ 2 ^ 55 → to_z w64 (of_z w64 (to_z w64 (of_z w64 (to_z w64 (of_z w64 x) +ℤ to_z w64 (of_z w64 y))) +ℤ to_z w64 (of_z w64 (to_z w64 (of_z w64 z) +ℤ to_z w64 (of_z w64 v))))) ≡ x +ℤ y +ℤ z +ℤ v
sums_code x y z v p q r s = omega (arith, ints)

pub sums_size : (x y z v : ℤ) → nat_abs x ≤ 2 ^ 55 → nat_abs y ≤ 2 ^ 55 → nat_abs z ≤ 2 ^ 55 → nat_abs v ≤ 2 ^ 55 → nat_abs (x +ℤ y +ℤ z +ℤ v) ≤ 2 ^ 57
sums_size x y z v p q r s = omega (arith, ints)
