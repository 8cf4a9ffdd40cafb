-- What is promised of numbers. Assumes nothing.
use Rattle.std.specs.Prelude.{◌≡◌, ◌^◌, ◌<◌, ℤ, Some, unsigned_abs}
use Rattle.std.specs.Fmt.{signed_decimal}
use Rattle.words.specs.Numbers.{number_of}

-- A number of at most 18 figures, written as usual, is read as it was.
abbrev pub ReadBack : Type 0
ReadBack = (z : ℤ) → unsigned_abs z < 10 ^ 18 → number_of (signed_decimal z) ≡ Some z
