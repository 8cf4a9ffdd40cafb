-- In which tick a body is highest. Assumes nothing: these are definitions.
use Rattle.std.specs.Prelude.{◌≡◌, ℕ, ◌<◌, ◌⊎◌, List, ℤ, ◌≤ℤ◌, ◌<ℤ◌}
use Rattle.height.specs.Almanacs.{Almanac, height_at, ticks}
use Rattle.height.specs.Files.{Good, almanac_in, first_beyond}
use Rattle.bridge.specs.declared.answer.HighestAnswer.{HighestAnswer}
use Rattle.bridge.specs.declared.highest.Peak.{Peak}
use Rattle.bridge.specs.Answers.{nothing}

-- Of the first n ticks, and tick 0, none is higher than the peak, and those before it are lower.
pub record Peaked (m : Almanac) (n : ℕ) (p : Peak) : Type 0 where
  pub height : p.height ≡ height_at m p.tick
  pub inside : p.tick < ticks m
  pub most : (u : ℕ) → u < n → height_at m u ≤ℤ p.height
  pub first : (u : ℕ) → u < p.tick → height_at m u <ℤ p.height

-- a tick that no tick is higher than, and that all before it are lower than
pub record Highest (m : Almanac) (t : ℕ) : Type 0 where
  pub inside : t < ticks m
  pub most : (u : ℕ) → u < ticks m → height_at m u ≤ℤ height_at m t
  pub first : (u : ℕ) → u < t → height_at m u <ℤ height_at m t

abbrev pub HighestSays : (xs : List ℤ) → HighestAnswer → Type 0
HighestSays xs r =
    (Good xs × (r.refused ≡ nothing) × Highest (almanac_in 1024 xs) r.tick)
    ⊎ ((Good xs → ⊥) × (r ≡ record { refused = record { number = 1; place = first_beyond xs }; tick = 0 }))
