-- What is promised of crossings. Each is a statement; a function of the module `theorems` has it as its contract. Assumes nothing.
use Rattle.std.specs.Prelude.{◌≡◌, ℕ, suc, ◌+◌, ◌*◌, ◌<◌, ◌≤◌, Bool, true, false, not, List, [], ◌∷◌, length, get_or, ℤ, pos, negsuc, ◌-ℤ◌, ◌≤ℤ◌, ◌≢◌, slice_index_or, unsigned_abs}
use Rattle.height.specs.Almanacs.{Almanac}
use Rattle.height.specs.Files.{almanac_in}
use Rattle.height.specs.Spans.{height, slope}
use Rattle.crossing.specs.declared.event.Crossing.{Crossing}
use Rattle.crossing.specs.Above.{over, above, rises, sets, becomes}
use Rattle.crossing.specs.Events.{crossings}

-- Ticks of a span may be skipped if as many slopes are less than the distance of the height from the level: in each of them it is over the level just as in the tick that was evaluated.
abbrev pub MaySkip : Type 0
MaySkip =
    (m : Almanac) (level : ℤ) (i u k j : ℕ) → u + k < m.fine → j ≤ k →
    k * slope m.fine (m.span i) < unsigned_abs (height m.fine (m.span i) u -ℤ level) →
    over m level (i * m.fine + (u + j)) ≡ over m level (i * m.fine + u)

-- Between two risings there is a setting, and between two settings a rising, of any condition: a body above a line is one.
abbrev pub InTurn : Type 0
InTurn =
    (f : ℕ → Bool) (w : Bool) (t u : ℕ) → becomes w f t ≡ true → becomes w f u ≡ true → t < u →
    (v : ℕ) × (t < v) × (v < u) × (becomes (not w) f v ≡ true)

-- A body above a line is above every lower line in the same tick.
abbrev pub LowerLine : Type 0
LowerLine = (m : Almanac) (low high : ℤ) (t : ℕ) → low ≤ℤ high → above m high t ≡ true → above m low t ≡ true

-- The listing has just the risings and settings of its ticks.
pub record Lists (f : ℕ → Bool) (t k : ℕ) (cs : List Crossing) : Type 0 where
  -- each that it has is one of these ticks', of the kind that it says
  pub sound : (i : ℕ) (d : Crossing) → i < length cs → (t ≤ (get_or cs i d).tick) × ((get_or cs i d).tick < t + k) × (becomes (get_or cs i d).rises f (get_or cs i d).tick ≡ true)
  -- and each of these ticks' is there
  pub whole : (w : Bool) (u : ℕ) → t ≤ u → u < t + k → becomes w f u ≡ true → (i : ℕ) × (i < length cs) × ((d : Crossing) → slice_index_or cs i d ≡ record { tick = u; rises = w })
  -- in order of time
  pub order : (i j : ℕ) (d : Crossing) → i < j → j < length cs → (get_or cs i d).tick < (get_or cs j d).tick
  -- and they take turns
  pub turns : (i : ℕ) (d : Crossing) → suc i < length cs → (get_or cs (suc i) d).rises ≡ not (get_or cs i d).rises

abbrev pub Listed : Type 0
Listed = (f : ℕ → Bool) (t k : ℕ) → Lists f t k (crossings f t k)

-- The file 0 0 0 0 is above the line 0 in all its ticks.
abbrev pub level_file : List ℤ
level_file = pos 0 ∷ pos 0 ∷ pos 0 ∷ pos 0 ∷ []

abbrev pub LevelAbove : Type 0
LevelAbove = (t : ℕ) → t < 1024 → above (almanac_in 1024 level_file) (pos 0) t ≡ true

-- The file -1 4 -4 0 is above the line 0 in tick 512 only; it rises there, and sets in tick 513.
abbrev pub touching_file : List ℤ
touching_file = negsuc 0 ∷ pos 4 ∷ negsuc 3 ∷ pos 0 ∷ []

abbrev pub TouchingAbove : Type 0
TouchingAbove =
    (above (almanac_in 1024 touching_file) (pos 0) 512 ≡ true)
    × ((t : ℕ) → t < 1024 → (t ≢ 512) → above (almanac_in 1024 touching_file) (pos 0) t ≡ false)
    × (rises (above (almanac_in 1024 touching_file) (pos 0)) 512 ≡ true)
    × (sets (above (almanac_in 1024 touching_file) (pos 0)) 513 ≡ true)
