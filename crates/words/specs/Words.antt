-- The words of a line. Assumes nothing: these are definitions.
use Rattle.std.specs.Prelude.{ℕ, Bool, cond, ◌||◌, List, [], ◌∷◌, ◌==◌}
use Rattle.words.specs.declared.split.Words.{Words}

-- a blank or a tab
abbrev pub blank : ℕ → Bool
blank b = b == 32 || b == 9

-- a byte in front of the first piece
abbrev pub before_first : ℕ → List (List ℕ) → List (List ℕ)
before_first b [] = (b ∷ []) ∷ []
before_first b (w ∷ ws) = (b ∷ w) ∷ ws

-- the pieces of a line between its blanks, the empty ones too
unfoldable pub pieces : List ℕ → List (List ℕ)
pieces [] = [] ∷ []
pieces (b ∷ bs) = cond (blank b) ([] ∷ pieces bs) (before_first b (pieces bs))

-- those that are not empty
unfoldable pub filled : List (List ℕ) → List (List ℕ)
filled [] = []
filled ([] ∷ ws) = filled ws
filled ((b ∷ w) ∷ ws) = (b ∷ w) ∷ filled ws

-- the words of a line: what stands between blanks
abbrev pub words : List ℕ → List (List ℕ)
words bs = filled (pieces bs)

-- those that an iterator has still to give
abbrev pub words_left : Words → List (List ℕ)
words_left w = words w.rest.now
