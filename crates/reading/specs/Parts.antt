-- A part of a file. Assumes nothing: these are definitions.
use Rattle.std.specs.Prelude.{◌≡◌, ℕ, ◌-◌, ◌*◌, ◌/◌, ◌≤◌, List, length, take, drop, ℤ}

-- Span `first` and those after it, up to span `end` and without it, are in a file of these numbers, four to a span.
abbrev pub InFile : (xs : List ℤ) (first end : ℕ) → Type 0
InFile xs first end = (first ≤ end) × (end ≤ length xs / 4)

-- The part of the file that holds these spans: just their numbers, in order. No number at all if they are not in the file.
pub record PartOf (xs : List ℤ) (first end : ℕ) (part : List ℤ) : Type 0 where
  pub taken : InFile xs first end → part ≡ take (4 * (end - first)) (drop (4 * first) xs)
  pub none : (InFile xs first end → ⊥) → length part ≡ 0
