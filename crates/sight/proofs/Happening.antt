-- An event by what is so in a tick and was in the tick before. Assumes nothing.
use Rattle.std.proofs.Common.{◌≡◌, ℕ, zero, suc, ◌-◌, Bool, not, ◌&&◌, sym, refl, ap, ◌∙◌, arith}
use Rattle.std.proofs.Math.Bool.{and-not_self, not-and_self}
use Rattle.crossing.specs.declared.event.Event.{Event}
use Rattle.crossing.specs.declared.event.Event.TheVariants.{Above, Rise, Set}
use Rattle.crossing.specs.Above.{rises, sets}
use Rattle.crossing.specs.Events.{happens}
use Rattle.sight.specs.Sights.{happens_by}

happens_is : (e : Event) (f : ℕ → Bool) (t : ℕ) → happens e f t ≡ happens_by e (f t) (f (t - 1))
unfolding rises sets
happens_is Above f t = refl
happens_is Rise f zero = sym (and-not_self (f 0))
happens_is Rise f (suc t) = let e : t ≡ suc t - 1 = omega arith in ap (λ (n : ℕ). f (suc t) && not (f n)) e
happens_is Set f zero = sym (not-and_self (f 0))
happens_is Set f (suc t) = let e : t ≡ suc t - 1 = omega arith in ap (λ (n : ℕ). not (f (suc t)) && f n) e

-- what the code worked out is what happens
pub happened : (e : Event) (f : ℕ → Bool) (t : ℕ) (r is was : Bool) → r ≡ happens_by e is was → is ≡ f t → was ≡ f (t - 1) → happens e f t ≡ r
happened e f t r is was p q s = happens_is e f t ∙ sym (p ∙ (λ i. happens_by e (q i) (s i)))
