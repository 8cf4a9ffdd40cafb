-- The differences of a span's height from tick to tick, over n ticks a span. Assumes nothing: these are definitions.
use Rattle.std.specs.Prelude.{ℕ, ◌+◌, ◌^◌, ◌<◌, ℤ, ◌+ℤ◌, ◌-ℤ◌, unsigned_abs}
use Rattle.height.specs.declared.span.Span.{Span}
use Rattle.height.specs.Spans.{height}
use Rattle.reading.specs.declared.differences.Differences.{Differences}

-- how much a row of numbers changes from place u to the next
abbrev pub difference : (ℕ → ℤ) → ℕ → ℤ
difference f u = f (u + 1) -ℤ f u

-- the differences of the height; of those; and of those
unfoldable pub first : (n : ℕ) (s : Span) (u : ℕ) → ℤ
first n s = difference (height n s)

unfoldable pub second : (n : ℕ) (s : Span) (u : ℕ) → ℤ
second n s = difference (first n s)

unfoldable pub third : (n : ℕ) (s : Span) (u : ℕ) → ℤ
third n s = difference (second n s)

-- the height in tick u with its differences there
abbrev pub differences_of : (n : ℕ) (s : Span) (u : ℕ) → Differences
differences_of n s u = record { height = height n s u; first = first n s u; second = second n s u; third = third n s u }

-- one tick on, by three additions
abbrev pub onward : Differences → Differences
onward r = record { height = r.height +ℤ r.first; first = r.first +ℤ r.second; second = r.second +ℤ r.third; third = r.third }

-- each of the three sums has its place in 64 bits
pub record Room (r : Differences) : Type 0 where
  pub height : unsigned_abs (r.height +ℤ r.first) < 2 ^ 63
  pub first : unsigned_abs (r.first +ℤ r.second) < 2 ^ 63
  pub second : unsigned_abs (r.second +ℤ r.third) < 2 ^ 63
