-- What a cursor gives, and how it goes on. Assumes nothing: these are definitions.
use Rattle.std.specs.Prelude.{◌≡◌, ℕ, ◌+◌, ◌*◌, ◌%◌, ◌<◌, List, map, Option, MatchOption, ◌==◌}
use Rattle.std.specs.List.{range_with_len}
use Rattle.height.specs.Almanacs.{Almanac, ticks, height_at}
use Rattle.height.specs.Views.{almanac_of}
use Rattle.reading.specs.declared.answer.Moment.{Moment}
use Rattle.reading.specs.declared.cursor.Cursor.{Cursor}
use Rattle.reading.specs.declared.stretch.Stretch.{Stretch}

-- tick t of an almanac: its number, the height in it, and whether it is the first of its span
abbrev pub moment : (m : Almanac) (t : ℕ) → Moment
moment m t = record { tick = t; height = height_at m t; first = (t % m.fine == 0) }

-- what f says of the first n ticks, one after the other
abbrev pub in_turn : {A : Type 0} (f : ℕ → A) (n : ℕ) → List A
in_turn f n = map f (range_with_len 0 n)

-- the almanac that a cursor goes through
abbrev pub almanac_under : Cursor → Almanac
almanac_under c = almanac_of c.view

-- the tick before which it stands; behind the last one, how many there are
abbrev pub tick_of : Cursor → ℕ
tick_of c = c.span * 1024 + c.at

-- it stands in the same file before this tick
pub record Stands (c : Cursor) (t : ℕ) (e : Cursor) : Type 0 where
  pub file : e.view.numbers.now ≡ c.view.numbers.now
  pub tick : tick_of e ≡ t

-- One call of `next`. It gives the tick before which the cursor stands, and goes one tick on; behind the last one it gives none, and stays.
abbrev pub Steps : Cursor → Option Moment → Cursor → Type 0
Steps c r e =
    MatchOption r ((tick_of c ≡ ticks (almanac_under c)) × Stands c (tick_of c) e)
    (λ x. (tick_of c < ticks (almanac_under c)) × (x ≡ moment (almanac_under c) (tick_of c)) × Stands c (tick_of c + 1) e)

-- The same in one span, behind whose last tick it stays.
abbrev pub StepsInSpan : Stretch → Option Moment → Stretch → Type 0
StepsInSpan s r e =
    MatchOption r ((s.cursor.at ≡ 1024) × Stands s.cursor (tick_of s.cursor) e.cursor)
    (λ x. (s.cursor.at < 1024) × (x ≡ moment (almanac_under s.cursor) (tick_of s.cursor)) × Stands s.cursor (tick_of s.cursor + 1) e.cursor × (e.cursor.at ≡ s.cursor.at + 1))
