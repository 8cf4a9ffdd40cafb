-- The lines of a text. Assumes nothing: these are definitions.
use Rattle.std.specs.Prelude.{ℕ, cond, List, [], ◌∷◌, ◌==◌}
use Rattle.std.specs.Io.BufRead.{ends_with_byte, strip_last}
use Rattle.words.specs.Words.{before_first}

-- A text cut behind each line break; the last line may lack one.
unfoldable pub lines : List ℕ → List (List ℕ)
lines [] = []
lines (b ∷ bs) = cond (b == 10) ((b ∷ []) ∷ lines bs) (before_first b (lines bs))

-- A line without its end: a line break, and a carriage return before it.
abbrev pub bare : List ℕ → List ℕ
bare bs = cond (ends_with_byte 10 bs) (strip_last 13 (strip_last 10 bs)) bs
