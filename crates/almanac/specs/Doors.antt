-- What a checked almanac holds. Assumes nothing: these are definitions.
use Rattle.std.specs.Prelude.{◌≡◌, List, ℤ, Result, MatchResult}
use Rattle.height.specs.Files.{Good, first_beyond}
use Rattle.height.specs.declared.refusal.Refusal.{Refusal}
use Rattle.height.specs.declared.refusal.Refusal.TheVariants.{File}
use Rattle.almanac.specs.declared.almanac.Almanac.{Almanac}

-- the numbers of its file
abbrev pub numbers_of : Almanac → List ℤ
numbers_of m = m.view.numbers.now

-- The almanac over a good file holds its numbers; any other file is refused, and where it goes wrong is the place.
abbrev pub Opens : List ℤ → Result Almanac Refusal → Type 0
Opens xs r = MatchResult r (λ m. Good xs × (numbers_of m ≡ xs)) (λ e. (Good xs → ⊥) × (e ≡ File (first_beyond xs)))
