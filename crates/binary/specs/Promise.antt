-- What holds of the nearest binary64 number and of half a place, in exact numbers. Statements only.
use Rattle.std.specs.Prelude.{◌≡◌, ℕ, zero, suc, ◌+◌, ◌*◌, ◌^◌, ◌<◌, ◌≤◌, Bool, true, false, ℤ, pos, negsuc, ◌-ℤ◌, ◌*ℤ◌, neg_ℤ, ◌≤ℤ◌, unsigned_abs, Float}
use Rattle.std.specs.Float.{nan, inf, fin}
use Rattle.std.specs.Float.Ieee.{minus, up, down, size, le}
use Rattle.std.specs.Float.Ieee.Scale.{finite}
use Rattle.binary.specs.Nearest.{nearest_over, rounded, IsOver, half_place}

-- what is said of every fraction h / 2 ^ bits of at most 500 binary places whose h is below 2 ^ 500 in size: binary64 goes further than this either way
abbrev pub Every : (ℕ → ℤ → Type 0) → Type 0
Every P = (bits : ℕ) (h : ℤ) → bits ≤ 500 → unsigned_abs h < 2 ^ 500 → P bits h

-- ---- a finite number m * 2 ^ e with its sign, as the exact fraction top / bottom
abbrev pub with_sign : Bool → ℕ → ℤ
with_sign false n = pos n
with_sign true n = neg_ℤ (pos n)

abbrev pub top : Float → ℤ
top nan = pos 0
top (inf s) = pos 0
top (fin s m e) = with_sign s (m * up e)

abbrev pub bottom : Float → ℕ
bottom nan = 1
bottom (inf s) = 1
bottom (fin s m e) = down e

-- |x - h / 2 ^ bits| ≤ y of finite x and y, with both sides multiplied by bottom x * 2 ^ bits * bottom y
pub record Within (x : Float) (bits : ℕ) (h : ℤ) (y : Float) : Type 0 where
  pub finite_x : finite x ≡ true
  pub finite_y : finite y ≡ true
  pub off : pos (unsigned_abs ((top x *ℤ pos (2 ^ bits)) -ℤ (h *ℤ pos (bottom x))) * bottom y) ≤ℤ (top y *ℤ pos (bottom x * 2 ^ bits))

-- ---- half a unit in the last place of a number x of binary64
-- e + a - b
abbrev pub moved : ℤ → ℕ → ℕ → ℤ
moved (pos k) a b = minus (k + a) b
moved (negsuc k) a b = minus a (suc k + b)

-- m has `size m` digits, so m * 2 ^ e begins at 2 ^ (e + size m - 1). The last of 53 places is worth 2 ^ 52 times less, and half of that 2 ^ 53 times less
abbrev pub half_unit : Float → Float
half_unit nan = nan
half_unit (inf s) = nan
half_unit (fin s zero e) = fin false 0 (pos 0)
half_unit (fin s (suc m) e) = fin false 1 (moved e (size (suc m)) 54)

-- ---- the statements

-- the nearest number is finite, and is a whole number over 2 ^ bits: `rounded h`
abbrev pub Whole : Type 0
Whole = Every (λ bits h. IsOver bits (nearest_over bits h) (rounded h))

-- the exact fraction is at most half a place off the nearest number
abbrev pub Near : Type 0
Near = Every (λ bits h. Within (nearest_over bits h) bits h (half_place bits h))

-- and half a place is no more than half a unit in the last place of the nearest number
abbrev pub HalfAUnit : Type 0
HalfAUnit = Every (λ bits h. le (half_place bits h) (half_unit (nearest_over bits h)) ≡ true)

-- of a number that is not negative the nearest number has a plus, and is not below zero
pub record Plain (x : Float) : Type 0 where
  pub plus : (m : ℕ) × (e : ℤ) × (x ≡ fin false m e)
  pub from_zero : le (fin false 0 (pos 0)) x ≡ true

abbrev pub NotNegative : Type 0
NotNegative = Every (λ bits h. pos 0 ≤ℤ h → Plain (nearest_over bits h))

-- zero is +0.0, at which half a place is 0 too
abbrev pub Zero : Type 0
Zero = (bits : ℕ) → bits ≤ 500 → (nearest_over bits (pos 0) ≡ fin false 0 (pos 0)) × (half_place bits (pos 0) ≡ fin false 0 (pos 0))

-- order is kept
abbrev pub InOrder : Type 0
InOrder = Every (λ bits h. (g : ℤ) → unsigned_abs g < 2 ^ 500 → g ≤ℤ h → le (nearest_over bits g) (nearest_over bits h) ≡ true)

-- a number of at most 53 binary digits is kept exactly
abbrev pub Exact : Type 0
Exact = Every (λ bits h. unsigned_abs h < 2 ^ 53 → IsOver bits (nearest_over bits h) h)
