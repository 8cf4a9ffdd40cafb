-- How an event, a rising and a setting are written, without a line break. Assumes nothing: these are definitions.
use Rattle.std.specs.Prelude.{ℕ, cond, List, ◌++◌, codes, decimal}
use Rattle.crossing.specs.declared.event.Crossing.{Crossing}
use Rattle.crossing.specs.declared.event.Event.{Event}
use Rattle.crossing.specs.declared.event.Event.TheVariants.{Above, Rise, Set}

abbrev pub event_text : Event → List ℕ
event_text Above = codes "above"
event_text Rise = codes "rise"
event_text Set = codes "set"

-- a rising or a setting, and its tick
abbrev pub crossing_text : Crossing → List ℕ
crossing_text c = cond c.rises (codes "rise ") (codes "set ") ++ decimal c.tick
