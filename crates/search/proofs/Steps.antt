-- One step of a walk, and walks one behind the other. Assumes nothing.
use Rattle.std.proofs.Common.{◌≡◌, ℕ, zero, suc, ◌+◌, ◌-◌, ◌<◌, ◌≤◌, Bool, true, false, not, Option, Some, None, sym, refl, ap, ◌∙◌, inl, inr, add-zero, add-suc, arith}
use mathlib.Core.Bool.{beq}
use Rattle.std.proofs.lemmas.Bool.{cases_lt}
use Rattle.search.specs.Walks.{Course, Seen, First, Walked, after}

-- a test of equality that failed, or passed
pub differs : (a b : Bool) → beq a b ≡ false → a ≡ not b
differs true true e = e
differs true false e = refl
differs false true e = refl
differs false false e = sym e

pub agrees : (a b : Bool) → beq a b ≡ true → a ≡ b
agrees true true e = refl
agrees true false e = sym e
agrees false true e = e
agrees false false e = refl

-- what is b up to t, and from t up to v, is b up to v
pub pass_on : {f : ℕ → Bool} {b : Bool} {start t v : ℕ} → ((u : ℕ) → start ≤ u → u < t → f u ≡ b) → ((u : ℕ) → t ≤ u → u < v → f u ≡ b) → (u : ℕ) → start ≤ u → u < v → f u ≡ b
pass_on {t = t} before there u p q = elim (cases_lt u t) [ inl h ↦ before u p h | inr h ↦ there u h q ]

-- a tick that is not as wanted says so of all up to `till`
pub seen_not : (m : Course) (t till : ℕ) (b w : Bool) → Seen m t b till → beq b w ≡ false → (u : ℕ) → t ≤ u → u < till → m.so u ≡ not w
seen_not m t till b w s e u p q = s.same u p q ∙ sym s.here ∙ differs b w e

pub after_is : (onto : ℕ → ℕ) (start j k : ℕ) → j ≡ k → after onto j start ≡ after onto k start
after_is onto start j k e = ap (λ (n : ℕ). after onto n start) e

-- one step more
pub after_more : (onto : ℕ → ℕ) (start j k : ℕ) {t v : ℕ} → after onto k start ≡ t → v ≡ onto t → j ≡ suc k → after onto j start ≡ v
after_more onto start j k p q e = after_is onto start j (suc k) e ∙ ap onto p ∙ sym q

pub after_add : (onto : ℕ → ℕ) (start j k : ℕ) → after onto (j + k) start ≡ after onto k (after onto j start)
after_add onto start j zero = after_is onto start (j + 0) j (add-zero j)
after_add onto start j (suc k) =
    after_is onto start (j + suc k) (suc (j + k)) (add-suc j k) ∙ ap onto (after_add onto start j k)

-- the walk that ends at the tick just evaluated
pub walked_here : (m : Course) (w : Bool) (start k t till : ℕ) (b : Bool) → Seen m t b till → b ≡ w → after m.onto k start ≡ t → start + k ≤ t → Walked m w start t till (k + 1)
walked_here m w start k t till b s e p f =
    record {
      on = after_more m.onto start (k + 1) k p s.till_is (omega arith);
      last = λ h. (omega arith, after_is m.onto start (k + 1 - 1) k (omega arith) ∙ p);
      ended = λ h. absurd (omega (arith, s.onward, s.inside));
      order = omega (arith, s.onward);
      onward = λ h. s.onward;
      inside = s.inside;
      stays = λ u l h. s.same u l h ∙ sym s.here ∙ e;
      few = omega (arith, s.onward);
    }

-- two walks, one behind the other, are one
pub walked_on : (m : Course) (v w : Bool) (start a mid j r till k : ℕ) → Walked m v start a mid j → Walked m w mid r till k → Walked m w start r till (j + k)
walked_on m v w start a mid j r till k p q =
    record {
      on = after_add m.onto start j k ∙ ap (after m.onto k) p.on ∙ q.on;
      last = λ h. (omega (arith, (q.last h).0), after_is m.onto start (j + k - 1) (j + (k - 1)) (omega (arith, (q.last h).0)) ∙ after_add m.onto start j (k - 1) ∙ ap (after m.onto (k - 1)) p.on ∙ (q.last h).1);
      ended = q.ended;
      order = q.order;
      onward = q.onward;
      inside = q.inside;
      stays = q.stays;
      few = omega (arith, p.few, q.few);
    }

-- what is first behind ticks that are not as wanted is first from these on
pub first_wider : (f : ℕ → Bool) (w : Bool) (a v stop : ℕ) (o : Option ℕ) → a ≤ v → ((u : ℕ) → a ≤ u → u < v → f u ≡ not w) → First f w v stop o → First f w a stop o
first_wider f w a v stop None le before q = pass_on before q
first_wider f w a v stop (Some r) le before q = (omega (arith, q.0), q.1, q.2, pass_on before q.3)
