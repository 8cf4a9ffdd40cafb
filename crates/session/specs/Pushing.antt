-- A line's numbers behind those that are there. Assumes nothing: these are definitions.
use Rattle.std.specs.Prelude.{◌≡◌, ℕ, List, ◌++◌, ℤ, Some, None, Ok, Err, Result}
use Rattle.session.specs.Sessions.{numbers_of}
use Rattle.session.specs.declared.numbers.Unread.{Unread}
use Rattle.session.specs.declared.numbers.Unread.TheVariants.{Word, Memory}

-- all of them are there, or a word is no number and nothing has changed
abbrev pub Pushes : (was : List ℤ) (ws : List (List ℕ)) (is : List ℤ) → Result (Unit {0}) Unread → Type 0
Pushes was ws is (Ok u) = (zs : List ℤ) × (numbers_of ws ≡ Some zs) × (is ≡ was ++ zs)
Pushes was ws is (Err Word) = (numbers_of ws ≡ None) × (is ≡ was)
Pushes was ws is (Err (Memory e)) = Unit {0}
