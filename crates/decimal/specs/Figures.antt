-- A whole number over a power of two, written in decimal figures with nothing rounded. Assumes nothing: these are definitions.
use Rattle.std.specs.Prelude.{ℕ, zero, suc, ◌+◌, ◌*◌, ◌/◌, ◌%◌, ◌^◌, cond, List, [], ◌∷◌, ◌++◌, ℤ, decimal, ◌==◌, unsigned_abs}
use Rattle.std.specs.Float.Ieee.{size}
use Rattle.std.specs.Fmt.{sign_text}
use Rattle.binary.specs.Nearest.{below_zero, leading_one, rounded}

-- The figures behind the point of f / 2 ^ k, for f below 2 ^ k. Ten times f / 2 ^ (k + 1) is 5 f / 2 ^ k: its whole part is the first figure,
-- and the others are those of its rest, which is over 2 ^ k. So there are k figures at most.
unfoldable pub figures : ℕ → ℕ → List ℕ
figures zero f = []
figures (suc k) f = cond (f == 0) [] ((48 + (f * 5) / 2 ^ k) ∷ figures k ((f * 5) % 2 ^ k))

-- w + f / 2 ^ k: the whole part, and, if there is a rest, a point and the figures behind it
abbrev pub fraction_text : ℕ → ℕ → ℕ → List ℕ
fraction_text k w f = decimal w ++ cond (f == 0) [] (46 ∷ figures k f)

-- n / 2 ^ bits
abbrev pub part_text : ℕ → ℕ → List ℕ
part_text bits n = fraction_text bits (n / 2 ^ bits) (n % 2 ^ bits)

-- z / 2 ^ bits, with a minus if it is below zero
abbrev pub exact_text : ℕ → ℤ → List ℕ
exact_text bits z = sign_text (below_zero z) ++ part_text bits (unsigned_abs z)

-- the binary64 number nearest to h / 2 ^ bits
abbrev pub float_text : ℕ → ℤ → List ℕ
float_text bits h = exact_text bits (rounded h)

-- half of what the last place of a binary64 number as large as h / 2 ^ bits is worth: the leading one of h, over 2 ^ (bits + 53)
abbrev pub error_text : ℕ → ℤ → List ℕ
error_text bits h = part_text (bits + 53) (leading_one (size (unsigned_abs h)))
