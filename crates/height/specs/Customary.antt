-- The customary forms of some definitions, at 1,024 ticks a span, and that they say the same. Assumes nothing.
use Rattle.std.specs.Prelude.{◌≡◌, ℕ, zero, suc, ◌-◌, ◌*◌, ◌%◌, ◌^◌, max, Bool, true, ◌&&◌, List, length, ℤ, pos, ◌+ℤ◌, ◌-ℤ◌, ◌*ℤ◌, Decides, ◌==◌, nat_le, unsigned_abs}
use Rattle.std.specs.Int.Signed.{shr_z}
use Rattle.height.specs.declared.span.Span.{Span}
use Rattle.height.specs.Almanacs.{Almanac, rounded, AllMeet}
use Rattle.height.specs.Files.{almanac_in, Good}
use Rattle.height.specs.Spans.{height, slope}

-- a height by nested products
abbrev pub Nested : Type 0
Nested =
    (s : Span) (u : ℕ) → height 1024 s u ≡ (((s.a *ℤ pos 1024 +ℤ s.b *ℤ pos u) *ℤ pos 1024 +ℤ s.c *ℤ pos (u * u)) *ℤ pos 1024) +ℤ s.d *ℤ pos (u * (u * u))

-- rounding by a half that is added before the floor
abbrev pub HalfAdded : Type 0
HalfAdded = (h : ℤ) → rounded 1024 h ≡ shr_z (h +ℤ pos 536870912) 1073741824

-- a test of all numbers below n
unfoldable pub all_below : ℕ → (ℕ → Bool) → Bool
all_below zero f = true
all_below (suc n) f = f n && all_below n f

unfoldable pub small_span : Span → Bool
small_span s =
    nat_le (unsigned_abs s.a) (2 ^ 24) && (nat_le (unsigned_abs s.b) (2 ^ 24) && (nat_le (unsigned_abs s.c) (2 ^ 24) && nat_le (unsigned_abs s.d) (2 ^ 24)))

unfoldable pub small_almanac : Almanac → Bool
small_almanac m =
    nat_le 1 m.spans && (nat_le m.spans 4096 && all_below m.spans (λ i. small_span (m.span i)))

-- the check of a file, span by span
abbrev pub CheckedBySpans : Type 0
CheckedBySpans =
    (xs : List ℤ) → Decides (length xs % 4 == 0 && small_almanac (almanac_in 1024 xs)) (Good xs)

unfoldable pub meets_next : Almanac → ℕ → Bool
meets_next m i =
    nat_le (unsigned_abs (height m.fine (m.span (suc i)) 0 -ℤ height m.fine (m.span i) (m.fine - 1))) (max (slope m.fine (m.span i)) (slope m.fine (m.span (suc i))))

-- that all spans meet, join by join
abbrev pub MeetsByJoins : Type 0
MeetsByJoins = (m : Almanac) → Decides (all_below (m.spans - 1) (meets_next m)) (AllMeet m)
