-- What the exported functions answer. Assumes nothing: these are definitions.
use Rattle.std.specs.Prelude.{◌≡◌, ℕ, suc, ◌+◌, ◌<◌, ◌≤◌, true, false, ◌⊎◌, List, length, take, drop, ℤ, pos, negsuc, ◌^◌, cond, nat_lt, Some, None, Option}
use Rattle.almanac.specs.Answers.{FirstAsked, SpansSays}
use Rattle.almanac.specs.Refuses.{Refuses, Taken}
use Rattle.binary.specs.Nearest.{nearest_over}
use Rattle.height.specs.Almanacs.{height_at, rounded, Meets, AllMeet}
use Rattle.height.specs.Files.{almanac_in, Good, first_beyond}
use Rattle.height.specs.Refusals.{refusal_number, refusal_place}
use Rattle.height.specs.declared.refusal.Refusal.{Refusal}
use Rattle.reading.specs.Readings.{Nears, Sights}
use Rattle.reading.specs.declared.answer.Sighting.{Sighting}
use Rattle.reading.specs.declared.answer.Sighting.TheVariants.{Seen, Hidden}
use Rattle.bridge.specs.declared.answer.FirstAnswer.{FirstAnswer}
use Rattle.bridge.specs.declared.answer.GapAnswer.{GapAnswer}
use Rattle.bridge.specs.declared.answer.HeightAnswer.{HeightAnswer}
use Rattle.bridge.specs.declared.answer.NearAnswer.{NearAnswer}
use Rattle.bridge.specs.declared.answer.Part.{Part}
use Rattle.bridge.specs.declared.answer.Refused.{Refused}
use Rattle.bridge.specs.declared.answer.SightingAnswer.{SightingAnswer}

-- nothing is refused
abbrev pub nothing : Refused
nothing = record { number = 0; place = 0 }

-- a refusal's place, and 0 for one below 0 or from 2^64 on
abbrev pub place_told : ℤ → ℕ
place_told (pos n) = cond (nat_lt n (2 ^ 64)) n 0
place_told (negsuc n) = 0

abbrev pub told : Refusal → Refused
told e = record { number = refusal_number e; place = place_told (refusal_place e) }

-- A question is refused, and these are the refusal's number and place.
pub record RefusedAs (xs : List ℤ) (line : ℤ) (t what : ℕ) (r : Refused) : Type 0 where
  pub why : Refusal
  pub refuses : Refuses xs line t what why
  pub number : r.number ≡ refusal_number why
  pub place : pos r.place ≡ refusal_place why

-- a file that is taken, or is refused at its place
abbrev pub CheckSays : (xs : List ℤ) → Refused → Type 0
CheckSays xs r = (Good xs × (r ≡ nothing)) ⊎ ((Good xs → ⊥) × (r ≡ record { number = 1; place = first_beyond xs }))

abbrev pub first_told : Option ℕ → ℕ → FirstAnswer
first_told (Some t) n = record { refused = nothing; found = true; tick = t; evaluations = n }
first_told None n = record { refused = nothing; found = false; tick = 0; evaluations = n }

abbrev pub FirstSays : (xs : List ℤ) (line : ℤ) (t what : ℕ) → FirstAnswer → Type 0
FirstSays xs line t what r =
    ((tick : Option ℕ) × (n : ℕ) × (r ≡ first_told tick n) × FirstAsked xs line t what tick n)
    ⊎ (RefusedAs xs line t what r.refused × (r ≡ record { refused = r.refused; found = false; tick = 0; evaluations = 0 }))

-- the height in a tick, in whole thousandths
abbrev pub HeightSays : (xs : List ℤ) (t : ℕ) → HeightAnswer → Type 0
HeightSays xs t r =
    (Taken xs (pos 0) t 0 × (r ≡ record { refused = nothing; height = rounded 1024 (height_at (almanac_in 1024 xs) t) }))
    ⊎ (RefusedAs xs (pos 0) t 0 r.refused × (r.height ≡ pos 0))

-- the height in a tick as a binary64 number, with its error
abbrev pub NearSays : (xs : List ℤ) (t : ℕ) → NearAnswer → Type 0
NearSays xs t r =
    (Taken xs (pos 0) t 0 × (r.refused ≡ nothing) × Nears (height_at (almanac_in 1024 xs) t) (record { height = r.height; error = r.error }))
    ⊎ (RefusedAs xs (pos 0) t 0 r.refused × (r.height ≡ nearest_over 30 (pos 0)) × (r.error ≡ nearest_over 30 (pos 0)))

-- whether the body is seen over the line, and how high over it; +0.0 where it is hidden
abbrev pub sighting_told : Sighting → SightingAnswer
sighting_told (Seen x) = record { refused = nothing; seen = true; above = x }
sighting_told Hidden = record { refused = nothing; seen = false; above = nearest_over 30 (pos 0) }

abbrev pub SightingSays : (xs : List ℤ) (line : ℤ) (t : ℕ) → SightingAnswer → Type 0
SightingSays xs line t r =
    ((o : Sighting) × Taken xs line t 0 × Sights (height_at (almanac_in 1024 xs) t) line o × (r ≡ sighting_told o))
    ⊎ (RefusedAs xs line t 0 r.refused × (r ≡ record { refused = r.refused; seen = false; above = nearest_over 30 (pos 0) }))

-- the part of the file that is meant by its place and length
pub record PartSays (xs : List ℤ) (first end : ℕ) (r : Part) : Type 0 where
  pub inside : r.place + r.length ≤ length xs
  pub part : SpansSays xs first end (take r.length (drop r.place xs))
  pub empty : r.length ≡ 0 → r.place ≡ 0

-- a span that was found, or that there is none
abbrev pub gap_told : Option ℕ → GapAnswer
gap_told (Some i) = record { refused = nothing; found = true; span = i }
gap_told None = record { refused = nothing; found = false; span = 0 }

-- the first span that does not meet the next one
abbrev pub GapSays : (xs : List ℤ) → GapAnswer → Type 0
GapSays xs r =
    (Good xs × (r ≡ record { refused = nothing; found = false; span = 0 }) × AllMeet (almanac_in 1024 xs))
    ⊎ ((i : ℕ) × Good xs × (r ≡ record { refused = nothing; found = true; span = i }) × (suc i < (almanac_in 1024 xs).spans) × (Meets (almanac_in 1024 xs) i → ⊥) × ((j : ℕ) → j < i → Meets (almanac_in 1024 xs) j))
    ⊎ ((Good xs → ⊥) × (r ≡ record { refused = record { number = 1; place = first_beyond xs }; found = false; span = 0 }))
