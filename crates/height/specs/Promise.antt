-- What is promised of heights, for every number n of ticks that a span has. Each is a statement; a function of the module `theorems` has it as its contract. Assumes nothing.
use Rattle.std.specs.Prelude.{◌≡◌, ℕ, suc, ◌*◌, ◌/◌, ◌^◌, ◌<◌, ◌≤◌, max, List, length, ℤ, pos, negsuc, ◌+ℤ◌, ◌-ℤ◌, ◌*ℤ◌, ◌≤ℤ◌, ◌<ℤ◌, ◌≢◌, slice_index_or, unsigned_abs}
use Rattle.height.specs.declared.span.Span.{Span}
use Rattle.height.specs.Almanacs.{Almanac, ticks, height_at, rounded, AllMeet}
use Rattle.height.specs.Files.{first_beyond}
use Rattle.height.specs.Spans.{unit, height, slope, Within}

-- No height gets larger than four times the largest number: 2^26 n³ for numbers within 2^24.
abbrev pub Fits : Type 0
Fits = (n : ℕ) (s : Span) (u : ℕ) → Within (2 ^ 24) s → u ≤ n → unsigned_abs (height n s u) ≤ 2 ^ 26 * unit n

-- At 1,024 ticks none reaches 2^58.
abbrev pub Fits64 : Type 0
Fits64 = (s : Span) (u : ℕ) → Within (2 ^ 24) s → u < 1024 → unsigned_abs (height 1024 s u) < 2 ^ 58

-- From a tick of a span to the next, also to the tick that would follow its last one, the height changes by its slope at most.
abbrev pub BySlope : Type 0
BySlope = (n : ℕ) (s : Span) (u : ℕ) → u < n → unsigned_abs (height n s (suc u) -ℤ height n s u) ≤ slope n s

-- All the way through an almanac whose spans meet, it changes by the larger of the two ticks' slopes at most.
abbrev pub AllTheWay : Type 0
AllTheWay =
    (m : Almanac) (t : ℕ) → 0 < m.fine → AllMeet m → suc t < ticks m →
    unsigned_abs (height_at m (suc t) -ℤ height_at m t) ≤ max (slope m.fine (m.span (t / m.fine))) (slope m.fine (m.span (suc t / m.fine)))

-- A rounded height r is off by half a thousandth at most, and is the upper one of two that are as near: r - 1/2 ≤ h / n³ < r + 1/2, here times 2 n³.
abbrev pub RoundedNear : Type 0
RoundedNear =
    (n : ℕ) (h : ℤ) → 0 < n →
    ((rounded n h *ℤ pos (2 * unit n)) ≤ℤ (pos 2 *ℤ h +ℤ pos (unit n)))
    × ((pos 2 *ℤ h +ℤ pos (unit n)) <ℤ ((rounded n h +ℤ pos 1) *ℤ pos (2 * unit n)))

-- The place of a refused file is the first number beyond 2^24, or the number of its numbers if there is none.
abbrev pub FirstBeyond : Type 0
FirstBeyond =
    (xs : List ℤ) →
    (first_beyond xs ≤ length xs)
    × ((k : ℕ) → k < first_beyond xs → unsigned_abs (slice_index_or xs k (pos 0)) ≤ 2 ^ 24)
    × (first_beyond xs < length xs → 2 ^ 24 < unsigned_abs (slice_index_or xs (first_beyond xs) (pos 0)))

-- The span 0 0 0 0 is level: its slope is 0, and its height is 0 in every tick.
abbrev pub level : Span
level = record { a = pos 0; b = pos 0; c = pos 0; d = pos 0 }

abbrev pub Level : Type 0
Level = (n : ℕ) → (slope n level ≡ 0) × ((u : ℕ) → height n level u ≡ pos 0)

-- The span -1 4 -4 0 comes up to 0 in its tick 512, and is below 0 in every other tick.
abbrev pub touching : Span
touching = record { a = negsuc 0; b = pos 4; c = negsuc 3; d = pos 0 }

abbrev pub Touching : Type 0
Touching =
    (height 1024 touching 512 ≡ pos 0)
    × ((u : ℕ) → (u ≢ 512) → height 1024 touching u <ℤ pos 0)
