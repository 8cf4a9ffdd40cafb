-- What may be skipped, and the walk that it gives. Assumes nothing: these are definitions.
use Rattle.std.specs.Prelude.{ℕ, zero, suc, ◌+◌, ◌-◌, ◌/◌, ◌%◌, min, Bool, not, ◌&&◌, ℤ, ◌-ℤ◌, unsigned_abs}
use Rattle.height.specs.Almanacs.{Almanac, height_at}
use Rattle.height.specs.Spans.{slope}
use Rattle.crossing.specs.declared.event.Event.{Event}
use Rattle.crossing.specs.declared.event.Event.TheVariants.{Above, Rise, Set}
use Rattle.crossing.specs.Above.{over}
use Rattle.search.specs.Walks.{Course}

-- How many ticks may be skipped, `most` at most: the largest number of which as many slopes are less than the distance. None at distance 0, and all of them if the slope is 0 elsewhere.
unfoldable pub skip : (distance slope most : ℕ) → ℕ
skip zero s most = 0
skip (suc d) zero most = most
skip (suc d) (suc s) most = min (d / suc s) most

-- How many ticks of its span follow tick t, and lie before `end`.
abbrev pub room : (m : Almanac) (end t : ℕ) → ℕ
room m end t = min (m.fine - 1 - t % m.fine) (end - 1 - t)

-- The tick that is evaluated after t: the one behind those that may be skipped. So no skip goes over the end of a span.
unfoldable pub next : (m : Almanac) (level : ℤ) (end t : ℕ) → ℕ
next m level end t =
    suc (t + skip (unsigned_abs (height_at m t -ℤ level)) (slope m.fine (m.span (t / m.fine))) (room m end t))

-- The walk over the ticks below `end`, by the slope of each span.
abbrev pub over_level : (m : Almanac) (level : ℤ) (end : ℕ) → Course
over_level m level end = record { so = over m level; stop = end; onto = next m level end }

-- Whether an event happens in a tick, by what is so there and was in the tick before. In tick 0 that is the same tick.
abbrev pub happens_by : Event → (is was : Bool) → Bool
happens_by Above is was = is
happens_by Rise is was = is && not was
happens_by Set is was = not is && was
