-- The check of a file, as a test. Assumes nothing.
use Rattle.std.proofs.Common.{◌≡◌, Bool, true, false, List, ℤ, refl}
use Rattle.height.specs.Files.{Good}
use Rattle.height.proofs.Bridges.{checked_by_spans}
use Rattle.session.specs.Replies.{good_file}

pub good_yes : (xs : List ℤ) → Good xs → good_file xs ≡ true
good_yes xs h = (checked_by_spans xs).1 h

pub good_from : (xs : List ℤ) → good_file xs ≡ true → Good xs
good_from xs h = (checked_by_spans xs).0 h

pub good_no : (xs : List ℤ) → (Good xs → ⊥) → good_file xs ≡ false
good_no xs h = go (good_file xs) refl
  where
    go : (b : Bool) → good_file xs ≡ b → good_file xs ≡ false
    go true e = absurd (h (good_from xs e))
    go false e = e
