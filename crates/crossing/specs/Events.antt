-- What is asked for, by its case and by its number, and all risings and settings of a row of ticks. Assumes nothing: these are definitions.
use Rattle.std.specs.Prelude.{◌≡◌, ℕ, zero, suc, ◌≤◌, Bool, true, false, cond, List, [], ◌∷◌, Result, MatchResult}
use Rattle.height.specs.declared.refusal.Refusal.{Refusal}
use Rattle.height.specs.declared.refusal.Refusal.TheVariants.{Asked}
use Rattle.crossing.specs.declared.event.Event.{Event}
use Rattle.crossing.specs.declared.event.Event.TheVariants.{Above, Rise, Set}
use Rattle.crossing.specs.declared.event.Crossing.{Crossing}
use Rattle.crossing.specs.Above.{rises, sets}

abbrev pub event_number : Event → ℕ
event_number Above = 0
event_number Rise = 1
event_number Set = 2

-- The event of a number: there is one up to 2, and any other number is refused as itself.
abbrev pub IsEvent : (number : ℕ) → Result Event Refusal → Type 0
IsEvent number r = MatchResult r (λ e. (number ≤ 2) × (event_number e ≡ number)) (λ e. (number ≤ 2 → ⊥) × (e ≡ Asked number))

-- in which ticks an event happens, for a body that is above in those that f says
abbrev pub happens : Event → (ℕ → Bool) → ℕ → Bool
happens Above f = f
happens Rise f = rises f
happens Set f = sets f

-- all risings and settings in the k ticks from t on, in order of time
unfoldable pub crossings : (f : ℕ → Bool) (t k : ℕ) → List Crossing
crossings f t zero = []
crossings f t (suc k) =
    cond (rises f t) (record { tick = t; rises = true } ∷ crossings f (suc t) k)
    (cond (sets f t) (record { tick = t; rises = false } ∷ crossings f (suc t) k) (crossings f (suc t) k))
