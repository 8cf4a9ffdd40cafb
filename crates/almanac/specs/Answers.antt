-- What is answered. Assumes nothing: these are definitions.
use Rattle.std.specs.Prelude.{◌≡◌, ℕ, zero, suc, ◌-◌, min, Bool, true, List, length, ℤ, pos, ◌*ℤ◌, Some, None, Option}
use Rattle.std.specs.Option.{unwrap_or}
use Rattle.crossing.specs.Above.{above, rises, sets}
use Rattle.crossing.specs.Events.{crossings, event_number, happens}
use Rattle.crossing.specs.declared.event.Crossing.{Crossing}
use Rattle.crossing.specs.declared.event.Event.{Event}
use Rattle.height.specs.Almanacs.{Almanac, ticks, height_at, rounded}
use Rattle.height.specs.Files.{almanac_in, Good}
use Rattle.height.specs.Refusals.{refusal_number}
use Rattle.height.specs.Spans.{unit}
use Rattle.reading.specs.Parts.{PartOf}
use Rattle.search.specs.Walks.{First, Steps, Walked, start_for, wanted_for}
use Rattle.sight.specs.Sights.{over_level}
use Rattle.height.specs.declared.refusal.Refusal.{Refusal}
use Rattle.almanac.specs.declared.entry.When.{When}
use Rattle.almanac.specs.declared.entry.When.TheVariants.{At, Never, Stands, Refused}
use Rattle.almanac.specs.Refuses.{Taken, Refuses}

-- what is asked for by its number: 0 that it is above, 1 that it rises, 2 that it sets
abbrev pub asked : ℕ → (ℕ → Bool) → ℕ → Bool
asked zero f = f
asked (suc zero) f = rises f
asked (suc (suc n)) f = sets f

-- The answer to "from tick t on, when is f first so", before the end: a tick in which it is so, and in none from t before it; or that it is so in none.
abbrev pub SaysFirst : (f : ℕ → Bool) (t stop : ℕ) (tick : Option ℕ) → Type 0
SaysFirst f t stop tick = First f true t stop tick

-- How many heights were worked out for it: one for each tick of the walk that the skip rule gives, from the tick asked from, or the one before it, up to the tick found.
abbrev pub CountsFirst : (m : Almanac) (line : ℤ) (event : Event) (t : ℕ) (tick : Option ℕ) (n : ℕ) → Type 0
CountsFirst m line event t tick n =
    (till : ℕ) × Walked (over_level m (line *ℤ pos (unit m.fine)) (ticks m)) (wanted_for event) (start_for event t) (unwrap_or tick (ticks m)) till n

-- All risings and settings from tick t up to `end`, or to the file's end; and how many heights were worked out: a walk from the tick before t.
abbrev pub ListsCrossings : (m : Almanac) (line : ℤ) (t end : ℕ) (cs : List Crossing) (n : ℕ) → Type 0
ListsCrossings m line t end cs n =
    (cs ≡ crossings (above m line) t (min end (ticks m) - t))
    × Steps (over_level m (line *ℤ pos (unit m.fine)) (min end (ticks m))) (t - 1) t n

-- the first tick of an event that is asked for by its number, and how many heights were worked out for it
pub record FirstAsked (xs : List ℤ) (line : ℤ) (t what : ℕ) (tick : Option ℕ) (n : ℕ) : Type 0 where
  pub taken : Taken xs line t what
  pub event : Event
  pub by_number : event_number event ≡ what
  pub first : SaysFirst (happens event (above (almanac_in 1024 xs) line)) t (ticks (almanac_in 1024 xs)) tick
  pub counted : CountsFirst (almanac_in 1024 xs) line event t tick n

-- the first tick, by the entry over numbers: a question that is taken is answered, and any other is refused by number
abbrev pub FirstSays : (xs : List ℤ) (line : ℤ) (t what : ℕ) → When → Type 0
FirstSays xs line t what (At r) = Taken xs line t what × SaysFirst (asked what (above (almanac_in 1024 xs) line)) t (ticks (almanac_in 1024 xs)) (Some r)
FirstSays xs line t what Never = Taken xs line t what × SaysFirst (asked what (above (almanac_in 1024 xs) line)) t (ticks (almanac_in 1024 xs)) None
FirstSays xs line t what (Stands h) = ⊥
FirstSays xs line t what (Refused n) = (e : Refusal) × Refuses xs line t what e × (n ≡ refusal_number e)

-- a height in whole thousandths, by the entry over numbers
abbrev pub HeightSays : (xs : List ℤ) (t : ℕ) → When → Type 0
HeightSays xs t (At r) = ⊥
HeightSays xs t Never = ⊥
HeightSays xs t (Stands h) = Taken xs (pos 0) t 0 × (h ≡ rounded 1024 (height_at (almanac_in 1024 xs) t))
HeightSays xs t (Refused n) = (e : Refusal) × Refuses xs (pos 0) t 0 e × (n ≡ refusal_number e)

-- a part of the file, by the entry over numbers: none of it where the file is refused
abbrev pub SpansSays : (xs : List ℤ) (first end : ℕ) (part : List ℤ) → Type 0
SpansSays xs first end part = (Good xs → PartOf xs first end part) × ((Good xs → ⊥) → length part ≡ 0)
