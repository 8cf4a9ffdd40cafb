-- A whole number over a power of two, and the binary64 number nearest to it. Definitions only.
use Rattle.std.specs.Prelude.{◌≡◌, ℕ, zero, suc, ◌+◌, ◌-◌, ◌*◌, ◌^◌, ◌<◌, ◌≤◌, Bool, true, false, ℤ, pos, negsuc, neg_ℤ, unsigned_abs, Float}
use Rattle.std.specs.Float.{fin, binary64}
use Rattle.std.specs.Float.Ieee.{minus, size, round}
use Rattle.std.specs.Float.Ieee.Exact.{HasValue}
use Rattle.std.specs.Float.Ieee.Nearest.{closest}

-- whether an integer is below zero: the sign of its binary64 number. Zero gets a plus
abbrev pub below_zero : ℤ → Bool
below_zero (pos n) = false
below_zero (negsuc n) = true

-- h / 2 ^ bits rounded once: the nearest binary64 number, and of two that are as near the one whose last digit is even
unfoldable pub nearest_over : ℕ → ℤ → Float
nearest_over bits h = round binary64 (below_zero h) (unsigned_abs h) (2 ^ bits)

-- a binary64 number keeps 53 binary digits; so many of the digits of n are left over
abbrev pub dropped : ℕ → ℕ
dropped n = size n - 53

-- n to its 53 leading binary digits: the nearest multiple of 2 ^ dropped n, and of two that are as near the even multiple
unfoldable pub leading : ℕ → ℕ
leading n = closest n (2 ^ dropped n) * 2 ^ dropped n

-- the same of an integer, with its sign
abbrev pub rounded : ℤ → ℤ
rounded (pos n) = pos (leading n)
rounded (negsuc n) = neg_ℤ (pos (leading (suc n)))

-- x is finite and is exactly z / 2 ^ bits, with the sign of z
abbrev pub IsOver : ℕ → Float → ℤ → Type 0
IsOver bits x z = HasValue x (below_zero z) (unsigned_abs z) (2 ^ bits)

-- r is the nearest number to h / 2 ^ bits as a whole number over 2 ^ bits. Where h is below a power of two in size, r is at most that power in size
pub record RoundedOver (bits : ℕ) (h r : ℤ) : Type 0 where
  pub value : r ≡ rounded h
  pub over : IsOver bits (nearest_over bits h) r
  pub bound : (k : ℕ) → unsigned_abs h < 2 ^ k → unsigned_abs r ≤ 2 ^ k

-- the leading one of a number of so many binary digits: 2 ^ p if they are p + 1, and 0 if there are none
abbrev pub leading_one : ℕ → ℕ
leading_one zero = 0
leading_one (suc p) = 2 ^ p

-- 2 ^ (p - bits - 53) for a number of p + 1 binary digits, and 0 for one of none
abbrev pub half_place_of : ℕ → ℕ → Float
half_place_of bits zero = fin false 0 (pos 0)
half_place_of bits (suc p) = fin false 1 (minus p (bits + 53))

-- Half of what the last place of a binary64 number as large as h / 2 ^ bits is worth. With 2 ^ p ≤ |h| < 2 ^ (p + 1) the fraction begins at
-- 2 ^ (p - bits), the last of 53 places is worth 2 ^ (p - bits - 52), and half of that is 2 ^ (p - bits - 53). At 0 it is 0.
-- The size is that of the exact fraction, before it is rounded: where rounding reaches the next power of two, this is the tighter bound.
unfoldable pub half_place : ℕ → ℤ → Float
half_place bits h = half_place_of bits (size (unsigned_abs h))
