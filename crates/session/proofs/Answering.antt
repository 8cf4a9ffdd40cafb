-- The answers of the almanac are those of the definitions. Assumes nothing.
use Rattle.std.proofs.Common.{◌≡◌, ℕ, zero, suc, ◌+◌, ◌-◌, ◌<◌, Bool, false, List, ◌++◌, ℤ, Some, None, Option, sym, refl, ap, ◌∙◌, inl, inr, arith}
use Rattle.std.proofs.lemmas.Bool.{cases_eq, cond-true, cond-false}
use Rattle.almanac.specs.Answers.{SaysFirst}
use Rattle.height.specs.Almanacs.{Almanac, ticks}
use Rattle.text.specs.Answers.{tick_bytes}
use Rattle.session.specs.Replies.{at_tick, for_tick, first_tick, tick_in}

-- what is called first is what looking at every tick finds
looked : (f : ℕ → Bool) (t k stop : ℕ) (o : Option ℕ) → t + k ≡ stop → SaysFirst f t stop o → o ≡ first_tick f t k
unfolding first_tick
looked f t zero stop None e h = refl
looked f t zero stop (Some r) e h = absurd (omega (arith, h.0, h.1))
looked f t (suc k) stop None e h =
    looked f (suc t) k stop None (omega arith) (λ u p q. h u (omega arith) q) ∙ sym (cond-false (f t) _ _ (h t (omega arith) (omega arith)))
looked f t (suc k) stop (Some r) e h =
    elim (cases_eq t r) [
      | inl same ↦ ap Some (sym same) ∙ sym (cond-true (f t) _ _ (ap f same ∙ h.2))
      | inr apart ↦ looked f (suc t) k stop (Some r) (omega arith) (omega (arith, h.0, apart), h.1, h.2, λ u p q. h.3 u (omega arith) q) ∙ sym (cond-false (f t) _ _ (h.3 t (omega arith) (omega (arith, h.0, apart))))
    ]

-- the first tick, as it is written
pub first_said : (m : Almanac) (z : ℤ) (f : ℕ → Bool) (t : ℕ) (o : Option ℕ) (was is : List ℕ) → Some t ≡ tick_in m z → t < ticks m → SaysFirst f t (ticks m) o → is ≡ was ++ tick_bytes o → ((at_tick m z (λ u. tick_bytes (first_tick f u (ticks m - u)))).refuses ≡ false) × (is ≡ was ++ (at_tick m z (λ u. tick_bytes (first_tick f u (ticks m - u)))).text)
first_said m z f t o was is there inside says written = (
  ap (λ (x : Option ℕ). (for_tick z (λ u. tick_bytes (first_tick f u (ticks m - u))) x).refuses) (sym there),
  written
      ∙ ap (λ (x : Option ℕ). was ++ tick_bytes x) (looked f t (ticks m - t) (ticks m) o (omega arith) says)
      ∙ ap (λ (x : Option ℕ). was ++ (for_tick z (λ u. tick_bytes (first_tick f u (ticks m - u))) x).text) there,
)
