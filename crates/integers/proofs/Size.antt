-- The size of a whole number: of sums and products, and as the sum of its two parts. Assumes nothing.
use Rattle.std.proofs.Common.{◌≡◌, ℕ, zero, suc, ◌+◌, ◌*◌, ◌≤◌, ℤ, pos, negsuc, ◌+ℤ◌, ◌-ℤ◌, ◌*ℤ◌, neg_ℤ, nat_abs, refl, mul-le-mul, arith}
use borrow.Author.Differences.{up, down, ints}

pub size_parts : (z : ℤ) → nat_abs z ≡ up z + down z
size_parts (pos n) = omega arith
size_parts (negsuc n) = omega arith

-- the same, times a natural, for omega, which does not multiply
pub times_size_parts : (n : ℕ) (z : ℤ) → n * nat_abs z ≡ n * up z + n * down z
times_size_parts n (pos k) = omega arith
times_size_parts n (negsuc k) = omega arith

pub size_neg : (z : ℤ) → nat_abs (neg_ℤ z) ≡ nat_abs z
size_neg (pos zero) = refl
size_neg (pos (suc n)) = refl
size_neg (negsuc n) = refl

pub size_times : (x y : ℤ) → nat_abs (x *ℤ y) ≡ nat_abs x * nat_abs y
size_times (pos a) (pos b) = refl
size_times (pos a) (negsuc b) = size_neg (pos (a * suc b))
size_times (negsuc a) (pos b) = size_neg (pos (suc a * b))
size_times (negsuc a) (negsuc b) = refl

-- a product whose factors are bounded is bounded
pub size_times_le : (x y : ℤ) (m n : ℕ) → nat_abs x ≤ m → nat_abs y ≤ n → nat_abs (x *ℤ y) ≤ m * n
size_times_le x y m n h k = rw (size_times x y) (mul-le-mul h k)

pub size_plus_le : (x y : ℤ) → nat_abs (x +ℤ y) ≤ nat_abs x + nat_abs y
size_plus_le x y = omega (arith, ints)

pub size_minus_comm : (x y : ℤ) → nat_abs (x -ℤ y) ≡ nat_abs (y -ℤ x)
size_minus_comm x y = omega (arith, ints)
