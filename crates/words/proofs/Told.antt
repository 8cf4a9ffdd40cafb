-- What is read of a word that is tried against keys. Assumes nothing.
use Rattle.std.proofs.Common.{◌≡◌, ℕ, Bool, true, false, cond, List, Some, Decides, Option, refl, subst}
use Rattle.std.specs.Str.{bytes_eq}
use Rattle.std.proofs.lemmas.Option.{cond_some}
use Rattle.std.proofs.lemmas.Slice.Eq.{bytes_eq-Decides}

-- what holds of one reading holds of whatever is the same
pub same_told : {X : Type 0} (P : X → Type 0) (x y : X) → Some x ≡ Some y → P x → P y
same_told P x y e p = subst P (cond_some true x y e).1 p

-- a word is tried against a key; else another is tried
pub tried : {X : Type 0} (P : X → Type 0) (w k : List ℕ) (x y : X) (other : Option X) → (w ≡ k → P x) → (other ≡ Some y → P y) → cond (bytes_eq w k) (Some x) other ≡ Some y → P y
tried {X} P w k x y other found other-told e = go (bytes_eq w k) (bytes_eq-Decides w k) e
  where
    go : (b : Bool) → Decides b (w ≡ k) → cond b (Some x) other ≡ Some y → P y
    go true d q = same_told P x y q (found (d.0 refl))
    go false d q = other-told q
