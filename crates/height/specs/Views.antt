-- What a checked view means. Assumes nothing: these are definitions.
use Rattle.std.specs.Prelude.{◌≡◌, List, ℤ, Result, MatchResult}
use Rattle.height.specs.declared.file.View.{View}
use Rattle.height.specs.declared.refusal.Refusal.{Refusal}
use Rattle.height.specs.declared.refusal.Refusal.TheVariants.{File}
use Rattle.height.specs.Almanacs.{Almanac}
use Rattle.height.specs.Files.{almanac_in, Good, first_beyond}

-- the almanac that a view shows, at 1,024 ticks a span
abbrev pub almanac_of : View → Almanac
almanac_of v = almanac_in 1024 v.numbers.now

-- The view of a good file shows its numbers; any other file is refused, and where it goes wrong is the place.
abbrev pub Checks : List ℤ → Result View Refusal → Type 0
Checks xs r = MatchResult r (λ v. Good xs × (v.numbers.now ≡ xs)) (λ e. (Good xs → ⊥) × (e ≡ File (first_beyond xs)))
