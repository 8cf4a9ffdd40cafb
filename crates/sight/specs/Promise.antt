-- What is promised of the number of ticks that are skipped. Assumes nothing.
use Rattle.std.specs.Prelude.{ℕ, ◌*◌, ◌<◌, ◌≤◌}
use Rattle.sight.specs.Sights.{skip}

-- It is the largest of the numbers up to `most` of which as many slopes are less than the distance; at distance 0 it is 0.
pub record Largest (distance slope most k : ℕ) : Type 0 where
  pub within : k ≤ most
  pub less : 0 < distance → k * slope < distance
  pub most_of_all : (j : ℕ) → j ≤ most → j * slope < distance → j ≤ k

abbrev pub SkipsMost : Type 0
SkipsMost = (distance slope most : ℕ) → Largest distance slope most (skip distance slope most)
