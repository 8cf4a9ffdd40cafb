-- Risings and settings take turns. Assumes nothing.
use Rattle.std.proofs.Common.{◌≡◌, ℕ, zero, suc, ◌+◌, ◌-◌, ◌<◌, Bool, true, false, not, ◌&&◌, ◌⊎◌, sym, refl, ap, ◌∙◌, ap₂, inl, inr, add-zero, add-suc, arith}
use Rattle.std.proofs.Math.Bool.{not-not}
use Rattle.std.proofs.lemmas.Bool.{and_parts, and_left, and_right, not-true, false≢true, true≢false}
use Rattle.crossing.specs.Above.{rises, sets, becomes}
use Rattle.crossing.specs.Promise.{InTurn}

-- becoming so in a tick: it is so there, and was not in the tick before
pub becomes_here : (w : Bool) (f : ℕ → Bool) (t : ℕ) → f (suc t) ≡ w → f t ≡ not w → becomes w f (suc t) ≡ true
unfolding rises sets
becomes_here true f t p q = ap₂ (λ (x y : Bool). x && not y) p q
becomes_here false f t p q = ap₂ (λ (x y : Bool). not x && y) p q

abbrev pub Became : (w : Bool) (f : ℕ → Bool) (t : ℕ) → Type 0
Became w f t = (0 < t) × (f t ≡ w) × (f (t - 1) ≡ not w)

before : (t : ℕ) → suc t - 1 ≡ t
before t = omega arith

pub became : (w : Bool) (f : ℕ → Bool) (t : ℕ) → becomes w f t ≡ true → Became w f t
unfolding rises sets
became true f zero h = absurd (false≢true h)
became false f zero h = absurd (false≢true h)
became true f (suc t) h =
    let p = and_parts (f (suc t)) (not (f t)) h in
    (omega arith, p.0, ap f (before t) ∙ not-true (f t) p.1)
became false f (suc t) h =
    let p = and_parts (not (f (suc t))) (f t) h in
    (omega arith, not-true (f (suc t)) p.0, ap f (before t) ∙ p.1)

-- it does not become so where it was so, nor where it is not
pub not_from : (w : Bool) (f : ℕ → Bool) (t : ℕ) → f t ≡ w → becomes w f (suc t) ≡ false
unfolding rises sets
not_from true f t h = and_right (f (suc t)) (not (f t)) (ap not h)
not_from false f t h = and_right (not (f (suc t))) (f t) h

pub not_to : (w : Bool) (f : ℕ → Bool) (t : ℕ) → f (suc t) ≡ not w → becomes w f (suc t) ≡ false
unfolding rises sets
not_to true f t h = and_left (f (suc t)) (not (f t)) h
not_to false f t h = and_left (not (f (suc t))) (f t) (ap not h)

pub not_at_first : (w : Bool) (f : ℕ → Bool) → becomes w f 0 ≡ false
unfolding rises sets
not_at_first true f = refl
not_at_first false f = refl

-- nothing is its own contrary
pub clash : (w : Bool) → w ≡ not w → ⊥
clash true e = true≢false e
clash false e = false≢true e

-- what is so in one tick and not so later becomes not so in between
pub turn_between : (f : ℕ → Bool) (w : Bool) (t k : ℕ) → f t ≡ w → f (t + k) ≡ not w → (v : ℕ) × (t < v) × (v < suc (t + k)) × (becomes (not w) f v ≡ true)
turn_between f w t zero p q = absurd (clash w (sym p ∙ ap f (sym (add-zero t)) ∙ q))
turn_between f w t (suc k) p q = at (turn_between f w t k p) (f (t + k)) refl
  where
    same : (x w : Bool) → (x ≡ w) ⊎ (x ≡ not w)
    same true true = inl refl
    same true false = inr refl
    same false true = inr refl
    same false false = inl refl

    at : (f (t + k) ≡ not w → (v : ℕ) × (t < v) × (v < suc (t + k)) × (becomes (not w) f v ≡ true)) → (x : Bool) → f (t + k) ≡ x → (v : ℕ) × (t < v) × (v < suc (t + suc k)) × (becomes (not w) f v ≡ true)
    at sooner x e =
        elim (same x w) [
          | inl h ↦ (suc (t + k), omega arith, omega arith, becomes_here (not w) f (t + k) (ap f (sym (add-suc t k)) ∙ q) (e ∙ h ∙ sym (not-not w)))
          | inr h ↦ (let r = sooner (e ∙ h) in (r.0, r.1, omega (arith, r.2), r.3))
        ]

pub in_turn : InTurn
in_turn f w t u p q lt =
    let a = became w f t p in
    let b = became w f u q in
    let e : t + (u - 1 - t) ≡ u - 1 = omega arith in
    let r = turn_between f w t (u - 1 - t) a.1 (ap f e ∙ b.2) in
    (r.0, r.1, omega (arith, r.2, b.0), r.3)
