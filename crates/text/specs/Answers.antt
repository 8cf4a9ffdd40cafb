-- How answers and refusals are written, each with the line break that ends it. Assumes nothing: these are definitions.
use Rattle.std.specs.Prelude.{◌≡◌, ℕ, cond, List, [], ◌∷◌, ◌++◌, ℤ, pos, Some, None, Ok, Err, codes, decimal, Option, Result, int_le}
use Rattle.std.specs.Fmt.{signed_decimal}
use Rattle.std.specs.List.{flat_map}
use Rattle.crossing.specs.declared.event.Crossing.{Crossing}
use Rattle.crossing.specs.Texts.{crossing_text}
use Rattle.decimal.specs.Figures.{error_text, float_text}
use Rattle.height.specs.declared.refusal.Refusal.{Refusal}
use Rattle.height.specs.Texts.{refusal_text}

-- what was written is at the end of the text, if there was memory for it
abbrev pub Appends : {E : Type 0} → (was new is : List ℕ) → Result (Unit {0}) E → Type 0
Appends was new is (Ok u) = is ≡ was ++ new
Appends was new is (Err e) = Unit {0}

abbrev pub tick_bytes : Option ℕ → List ℕ
tick_bytes (Some t) = decimal t ++ codes "\n"
tick_bytes None = codes "none\n"

abbrev pub height_bytes : ℤ → List ℕ
height_bytes h = signed_decimal h ++ codes "\n"

-- a height that is kept times 2^30, as the nearest number of binary64, and how far off that is at most: both are written exactly
abbrev pub near_bytes : ℤ → List ℕ
near_bytes h = float_text 30 h ++ (codes " " ++ (error_text 30 h ++ codes "\n"))

-- how far above the line the body is, times 2^30: seen, with that as the nearest number of binary64, or hidden
abbrev pub sight_bytes : ℤ → List ℕ
sight_bytes d = cond (int_le (pos 0) d) (codes "seen " ++ (float_text 30 d ++ codes "\n")) (codes "hidden\n")

-- a rising or a setting
abbrev pub crossing_bytes : Crossing → List ℕ
crossing_bytes c = crossing_text c ++ codes "\n"

-- a table: a line for each, or that there is none
abbrev pub table_bytes : List Crossing → List ℕ
table_bytes [] = codes "none\n"
table_bytes (c ∷ cs) = flat_map crossing_bytes (c ∷ cs)

-- a span's numbers
abbrev pub span_bytes : (a b c d : ℤ) → List ℕ
span_bytes a b c d = signed_decimal a ++ (codes " " ++ (signed_decimal b ++ (codes " " ++ (signed_decimal c ++ (codes " " ++ (signed_decimal d ++ codes "\n"))))))

-- numbers, four to a line
unfoldable pub numbers_bytes : List ℤ → List ℕ
numbers_bytes [] = []
numbers_bytes (a ∷ []) = []
numbers_bytes (a ∷ b ∷ []) = []
numbers_bytes (a ∷ b ∷ c ∷ []) = []
numbers_bytes (a ∷ b ∷ c ∷ d ∷ xs) = span_bytes a b c d ++ numbers_bytes xs

-- a part of the file: a line for each of its spans, or that there is none
abbrev pub part_bytes : List ℤ → List ℕ
part_bytes [] = codes "none\n"
part_bytes (x ∷ xs) = numbers_bytes (x ∷ xs)

-- a refusal: its number, its place, and the reason
abbrev pub refusal_bytes : Refusal → List ℕ
refusal_bytes e = refusal_text e ++ codes "\n"
