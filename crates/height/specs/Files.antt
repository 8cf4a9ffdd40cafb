-- A file: a row of whole numbers, four to a span. Which files are good, and where one that is not goes wrong. Assumes nothing: these are definitions.
use Rattle.std.specs.Prelude.{◌≡◌, ℕ, zero, suc, ◌+◌, ◌*◌, ◌/◌, ◌%◌, ◌^◌, ◌<◌, ◌≤◌, cond, List, [], ◌∷◌, length, ℤ, pos, nat_le, slice_index_or, unsigned_abs}
use Rattle.height.specs.declared.span.Span.{Span}
use Rattle.height.specs.Almanacs.{Almanac}

abbrev pub span_at : List ℤ → ℕ → Span
span_at xs i = record { a = slice_index_or xs (4 * i) (pos 0); b = slice_index_or xs (4 * i + 1) (pos 0); c = slice_index_or xs (4 * i + 2) (pos 0); d = slice_index_or xs (4 * i + 3) (pos 0) }

-- the almanac that a file holds, at n ticks a span
abbrev pub almanac_in : (n : ℕ) → List ℤ → Almanac
almanac_in n xs = record { fine = n; spans = length xs / 4; span = span_at xs }

-- A good file has four numbers to a span, 1 to 4,096 spans, and no number beyond 2^24 either way.
pub record Good (xs : List ℤ) : Type 0 where
  pub fours : length xs % 4 ≡ 0
  pub some : 4 ≤ length xs
  pub few : length xs ≤ 16384
  pub small : (k : ℕ) → k < length xs → unsigned_abs (slice_index_or xs k (pos 0)) ≤ 2 ^ 24

-- The place at which a file is refused: the index of the first number beyond 2^24, else how many numbers there are.
unfoldable pub first_beyond : List ℤ → ℕ
first_beyond [] = zero
first_beyond (x ∷ xs) = cond (nat_le (unsigned_abs x) (2 ^ 24)) (suc (first_beyond xs)) zero
