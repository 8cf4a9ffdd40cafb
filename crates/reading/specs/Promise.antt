-- What is promised of readings. Each is a statement; a function of the module `theorems` has it as its contract. Assumes nothing.
use Rattle.std.specs.Prelude.{◌≡◌, ℕ, zero, suc, ◌+◌, ◌-◌, ◌*◌, ◌/◌, ◌^◌, ◌<◌, ◌≤◌, true, false, List, map, length, ℤ, pos, ◌+ℤ◌, ◌*ℤ◌, ◌≤ℤ◌, unsigned_abs}
use Rattle.std.specs.Float.{fin}
use Rattle.std.specs.Float.Ieee.{le}
use Rattle.std.specs.List.{range_with_len}
use Rattle.std.specs.Iterator.{AlwaysYields}
use Rattle.binary.specs.Promise.{half_unit}
use Rattle.height.specs.declared.span.Span.{Span}
use Rattle.height.specs.Almanacs.{Almanac, ticks, height_at}
use Rattle.height.specs.Files.{almanac_in}
use Rattle.height.specs.Spans.{Within}
use Rattle.reading.specs.declared.answer.Near.{Near}
use Rattle.reading.specs.declared.answer.Sighting.{Sighting}
use Rattle.reading.specs.declared.answer.Sighting.TheVariants.{Seen}
use Rattle.reading.specs.declared.cursor.Cursor.{Cursor}
use Rattle.reading.specs.declared.differences.Differences.{Differences}
use Rattle.reading.specs.declared.stretch.Stretch.{Stretch}
use Rattle.reading.specs.Cursors.{Steps, StepsInSpan, almanac_under, moment, tick_of}
use Rattle.reading.specs.Differences.{differences_of, first, onward, second, third}
use Rattle.reading.specs.Parts.{InFile, PartOf}
use Rattle.reading.specs.Readings.{Nears, Sights, above_line}

-- What every source is: 1,024 ticks a span, and spans of numbers within 2^25.
pub record Small (m : Almanac) : Type 0 where
  pub coarse : m.fine ≡ 1024
  pub spans : (i : ℕ) → i < m.spans → Within (2 ^ 25) (m.span i)

-- ---- binary64 numbers

-- Order is kept: the higher of two ticks has no smaller number.
abbrev pub InOrder : Type 0
InOrder =
    (m : Almanac) (t u : ℕ) (p q : Near) → Small m → t < ticks m → u < ticks m → Nears (height_at m t) p → Nears (height_at m u) q →
    height_at m t ≤ℤ height_at m u → le p.height q.height ≡ true

-- The error is no more than half a unit in the last place of the number.
abbrev pub HalfAUnit : Type 0
HalfAUnit = (m : Almanac) (t : ℕ) (p : Near) → Small m → t < ticks m → Nears (height_at m t) p → le p.error (half_unit p.height) ≡ true

-- A height of 0 is +0.0, with no error.
abbrev pub AtZero : Type 0
AtZero = (p : Near) → Nears (pos 0) p → (p.height ≡ fin false 0 (pos 0)) × (p.error ≡ fin false 0 (pos 0))

-- On the line a body is seen, at +0.0.
abbrev pub OnTheLine : Type 0
OnTheLine = (h line : ℤ) (r : Sighting) → Sights h line r → above_line h line ≡ pos 0 → r ≡ Seen (fin false 0 (pos 0))

-- ---- differences, for every number n of ticks that a span has

-- They are what a cubic's are; the third is the same in every tick.
abbrev pub OfACubic : Type 0
OfACubic =
    (n : ℕ) (s : Span) (u : ℕ) →
    (first n s u ≡ s.b *ℤ pos (n * n) +ℤ s.c *ℤ pos (n * (2 * u + 1)) +ℤ s.d *ℤ pos (3 * (u * u) + 3 * u + 1))
    × (second n s u ≡ s.c *ℤ pos (2 * n) +ℤ s.d *ℤ pos (6 * (u + 1)))
    × (third n s u ≡ s.d *ℤ pos 6)

-- so many ticks on, three additions each
abbrev pub after : (u : ℕ) → Differences → Differences
after zero r = r
after (suc u) r = onward (after u r)

-- From the height and the differences in tick 0, additions alone lead to those of every tick.
abbrev pub ByAdditions : Type 0
ByAdditions = (n : ℕ) (s : Span) (u : ℕ) → after u (differences_of n s 0) ≡ differences_of n s u

-- At 1,024 ticks and numbers within 2^25 they have room in 64 bits, up to the tick that would follow the last one.
abbrev pub HaveRoom : Type 0
HaveRoom =
    (s : Span) (u : ℕ) → Within (2 ^ 25) s → u ≤ 1024 →
    (unsigned_abs (first 1024 s u) < 2 ^ 48) × (unsigned_abs (second 1024 s u) < 2 ^ 39) × (unsigned_abs (third 1024 s u) < 2 ^ 28)

-- ---- cursors

-- Wherever a cursor stands, its calls give every tick from there to the last one, in order, and then none.
abbrev pub GoesThrough : Type 0
GoesThrough =
    (c : Cursor) → AlwaysYields Steps (λ x. x) c (map (moment (almanac_under c)) (range_with_len (tick_of c) (ticks (almanac_under c) - tick_of c)))

-- And so do those over one span, to the last tick of the span.
abbrev pub GoesThroughSpan : Type 0
GoesThroughSpan =
    (s : Stretch) → AlwaysYields StepsInSpan (λ x. x) s (map (moment (almanac_under s.cursor)) (range_with_len (tick_of s.cursor) (1024 - s.cursor.at)))

-- ---- parts

-- A part that is in the file holds so many spans, and is read as the file is from the part's first span on.
abbrev pub ReadsOn : Type 0
ReadsOn =
    (n : ℕ) (xs part : List ℤ) (from end : ℕ) → 0 < n → InFile xs from end → PartOf xs from end part →
    (length part / 4 ≡ end - from)
    × ((t : ℕ) → t < (end - from) * n → height_at (almanac_in n part) t ≡ height_at (almanac_in n xs) (from * n + t))
