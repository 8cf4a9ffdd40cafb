-- A walk over a row of ticks, from each tick that it evaluates to the next, and what it finds. Assumes nothing: these are definitions.
use Rattle.std.specs.Prelude.{◌≡◌, ℕ, zero, suc, ◌+◌, ◌-◌, ◌<◌, ◌≤◌, Bool, true, false, not, List, [], ◌∷◌, Some, None, Option, MatchOption}
use Rattle.crossing.specs.Events.{crossings}
use Rattle.crossing.specs.declared.event.Crossing.{Crossing}
use Rattle.crossing.specs.declared.event.Event.{Event}
use Rattle.crossing.specs.declared.event.Event.TheVariants.{Above, Rise, Set}

-- A condition over the ticks below `stop`, and the tick that is evaluated after each one: the skip rule.
pub record Course : Type 0 where
  pub so : ℕ → Bool
  pub stop : ℕ
  pub onto : ℕ → ℕ

-- What the evaluation of tick t says: whether the condition holds there, and up to which tick that stays so.
pub record Seen (m : Course) (t : ℕ) (holds : Bool) (till : ℕ) : Type 0 where
  pub here : holds ≡ m.so t
  pub till_is : till ≡ m.onto t
  pub onward : t < till
  pub inside : till ≤ m.stop
  pub same : (u : ℕ) → t ≤ u → u < till → m.so u ≡ m.so t

-- The first tick from `start` on, below `stop`, in which f is w: it is w there and in no tick from `start` before it. Or there is none: it is w in no tick from `start` below `stop`.
abbrev pub First : (f : ℕ → Bool) (w : Bool) (start stop : ℕ) → Option ℕ → Type 0
First f w start stop (Some r) = (start ≤ r) × (r < stop) × (f r ≡ w) × ((u : ℕ) → start ≤ u → u < r → f u ≡ not w)
First f w start stop None = (u : ℕ) → start ≤ u → u < stop → f u ≡ not w

-- the tick to which k steps lead, from t on
abbrev pub after : (onto : ℕ → ℕ) (k t : ℕ) → ℕ
after onto zero t = t
after onto (suc k) t = onto (after onto k t)

-- A walk that starts at `start` and looks for w came to r: it evaluated n ticks, each the next one of the one before, the last of them r unless r is `stop`. It would go on at `till`.
pub record Walked (m : Course) (w : Bool) (start r till n : ℕ) : Type 0 where
  pub on : after m.onto n start ≡ till
  pub last : r < m.stop → (1 ≤ n) × (after m.onto (n - 1) start ≡ r)
  pub ended : m.stop ≤ r → till ≡ r
  pub order : r ≤ till
  pub onward : r < m.stop → r < till
  pub inside : till ≤ m.stop
  -- from r up to there it stays w
  pub stays : (u : ℕ) → r ≤ u → u < till → m.so u ≡ w
  pub few : start + n ≤ till

-- A walk for a rising or a setting starts in the tick before the one asked from, since what was so there decides it.
abbrev pub start_for : Event → ℕ → ℕ
start_for Above t = t
start_for Rise t = t - 1
start_for Set t = t - 1

-- what the condition is in the tick that is found
abbrev pub wanted_for : Event → Bool
wanted_for Above = true
wanted_for Rise = true
wanted_for Set = false

-- A walk over the whole row, from `start` to its end, evaluates n ticks; none where the row has no tick from `first` on.
abbrev pub Steps : (m : Course) (start first n : ℕ) → Type 0
Steps m start first n = (m.stop ≤ first → n ≡ 0) × (first < m.stop → after m.onto n start ≡ m.stop)

-- what is left of the row's risings and settings, from tick t on
abbrev pub left : (m : Course) (t : ℕ) → List Crossing
left m t = crossings m.so t (m.stop - t)

-- A walk over the row's ticks from `first` on came to tick t by n evaluations, the first of them in the tick before. None where the row has no tick from `first` on.
abbrev pub Came : (m : Course) (first t n : ℕ) → Type 0
Came m first t n = (m.stop ≤ first → (n ≡ 0) × (t ≡ m.stop)) × (first < m.stop → after m.onto n (first - 1) ≡ t)

-- One more rising or setting of a walk that came to tick t by n evaluations, and then to tick u by k. It gives the first one that is left; or none is left, and it came to the row's end.
pub record Gives (m : Course) (t n : ℕ) (r : Option Crossing) (u k : ℕ) : Type 0 where
  pub next : MatchOption r ((left m t ≡ []) × (u ≡ m.stop)) (λ c. (left m t ≡ c ∷ left m u) × (t < u))
  pub steps : after m.onto (k - n) t ≡ u
  pub counted : n ≤ k
  pub few : t + k ≤ u + n
  pub inside : u ≤ m.stop
