-- When a body is above a line, rises and sets. Assumes nothing: these are definitions.
use Rattle.std.specs.Prelude.{ℕ, zero, suc, Bool, true, false, not, ◌&&◌, ℤ, pos, ◌*ℤ◌, int_le}
use Rattle.height.specs.Almanacs.{Almanac, height_at}
use Rattle.height.specs.Spans.{unit}

-- The height in a tick is not below a level. A level is kept as heights are, times n³, so this is exact.
unfoldable pub over : (m : Almanac) (level : ℤ) → ℕ → Bool
over m level t = int_le level (height_at m t)

-- Above a line, which is a whole number of thousandths, or on it.
abbrev pub above : (m : Almanac) (line : ℤ) → ℕ → Bool
above m line = over m (line *ℤ pos (unit m.fine))

-- A condition rises in a tick in which it is so and was not in the tick before, and sets in one in which it is not and was. In tick 0 it does neither.
-- The tick before the first of a span is the last one of the span before.
unfoldable pub rises : (ℕ → Bool) → ℕ → Bool
rises f zero = false
rises f (suc t) = f (suc t) && not (f t)

unfoldable pub sets : (ℕ → Bool) → ℕ → Bool
sets f zero = false
sets f (suc t) = not (f (suc t)) && f t

-- it becomes so, or becomes not so
abbrev pub becomes : Bool → (ℕ → Bool) → ℕ → Bool
becomes true f = rises f
becomes false f = sets f
