-- What holds of the texts. Statements only.
use Rattle.std.specs.Prelude.{◌≡◌, ℕ, ◌+◌, ◌*◌, ◌/◌, ◌^◌, ◌<◌, ◌≤◌, false, List, [], ◌∷◌, length, ℤ, pos, ◌-ℤ◌, ◌*ℤ◌, Some, codes, ◌≢◌, unsigned_abs, Float}
use Rattle.std.specs.Float.Ieee.Exact.{HasValue}
use Rattle.binary.specs.Nearest.{below_zero, half_place, nearest_over}
use Rattle.binary.specs.Promise.{with_sign}
use Rattle.decimal.specs.Figures.{error_text, exact_text, figures, float_text}
use Rattle.decimal.specs.Reading.{Said, number_in, read_on}

-- the figures behind the point are f / 2 ^ k exactly
abbrev pub Exact : Type 0
Exact = (k f : ℕ) → f < 2 ^ k → read_on 0 (figures k f) * 2 ^ k ≡ f * 10 ^ length (figures k f)

-- there are k of them at most
abbrev pub Few : Type 0
Few = (k f : ℕ) → f < 2 ^ k → length (figures k f) ≤ k

-- the last of some bytes, and b if there are none
abbrev pub last : ℕ → List ℕ → ℕ
last b [] = b
last b (c ∷ cs) = last c cs

-- and the last of them is no 0
abbrev pub NoZeroAtTheEnd : Type 0
NoZeroAtTheEnd = (k f : ℕ) → f < 2 ^ k → 0 < f → last 48 (figures k f) ≢ 48

-- a text is read, and says exactly z / 2 ^ bits
pub record SaysOver (bits : ℕ) (z : ℤ) (text : List ℕ) : Type 0 where
  pub said : Said
  pub read : number_in text ≡ Some said
  pub minus : said.minus ≡ below_zero z
  pub equal : said.figures * 2 ^ bits ≡ unsigned_abs z * 10 ^ said.places

-- what is written of z / 2 ^ bits is read back as just that, if the whole part fits a u64
abbrev pub ReadsBack : Type 0
ReadsBack = (bits : ℕ) (z : ℤ) → unsigned_abs z / 2 ^ bits < 2 ^ 64 → SaysOver bits z (exact_text bits z)

-- a text is read, and says exactly what the binary64 number x is
pub record Says (x : Float) (text : List ℕ) : Type 0 where
  pub said : Said
  pub read : number_in text ≡ Some said
  pub value : HasValue x said.minus said.figures (10 ^ said.places)

-- what is said of h / 2 ^ bits with at most 400 binary places, and below 2 ^ 63 in size
abbrev pub Every : (ℕ → ℤ → Type 0) → Type 0
Every P = (bits : ℕ) (h : ℤ) → bits ≤ 400 → unsigned_abs h < 2 ^ (bits + 63) → P bits h

-- the nearest binary64 number is written exactly
abbrev pub FloatExact : Type 0
FloatExact = Every (λ bits h. Says (nearest_over bits h) (float_text bits h))

-- and so is half of its last place
abbrev pub ErrorExact : Type 0
ErrorExact = Every (λ bits h. Says (half_place bits h) (error_text bits h))

-- Two texts are read, and h / 2 ^ bits is off the number that the first says by at most the number that the second says:
-- |n / 10 ^ p - h / 2 ^ bits| ≤ m / 10 ^ q, with both sides multiplied by 10 ^ p * 2 ^ bits * 10 ^ q
pub record OffBy (bits : ℕ) (h : ℤ) (number error : List ℕ) : Type 0 where
  pub said : Said
  pub half : Said
  pub read : number_in number ≡ Some said
  pub read_half : number_in error ≡ Some half
  pub plus : half.minus ≡ false
  pub off : unsigned_abs ((with_sign said.minus said.figures *ℤ pos (2 ^ bits)) -ℤ (h *ℤ pos (10 ^ said.places))) * 10 ^ half.places ≤ half.figures * (10 ^ said.places * 2 ^ bits)

-- the exact fraction is off the number that is written by at most the half place that is written
abbrev pub WrittenNear : Type 0
WrittenNear = Every (λ bits h. OffBy bits h (float_text bits h) (error_text bits h))

-- zero is just `0`
abbrev pub Zero : Type 0
Zero = (bits : ℕ) → (exact_text bits (pos 0) ≡ codes "0") × (float_text bits (pos 0) ≡ codes "0") × (error_text bits (pos 0) ≡ codes "0")
