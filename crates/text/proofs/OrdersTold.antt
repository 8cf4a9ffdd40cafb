-- Only the words of an order are read as it. Assumes nothing.
use Rattle.std.proofs.Common.{◌≡◌, ℕ, List, [], ◌∷◌, ℤ, Some, None, codes, Option, refl}
use Rattle.std.proofs.lemmas.Option.{none-some}
use Rattle.crossing.specs.declared.event.Event.TheVariants.{Above, Rise, Set}
use Rattle.text.specs.Orders.{keyed, with_one, with_two, Say}
use Rattle.text.specs.Promise.{OrdersTold}
use Rattle.text.specs.declared.order.Order.{Order}
use Rattle.text.specs.declared.order.Order.TheVariants.{Line, First, Height, Spans, Table, Tables}
use Rattle.words.specs.Numbers.{number_of}
use Rattle.words.proofs.Told.{tried}

-- a word and a number
one_said : (w v : List ℕ) (z : ℤ) (p : Order) → number_of v ≡ Some z → keyed w z ≡ Some p → Say p (w ∷ v ∷ [])
one_said w v z p n =
    tried S w (codes "line") (Line z) p _ (λ k. (k, (n, tt)))
    (tried S w (codes "above") (First Above z) p _ (λ k. (k, (n, tt)))
    (tried S w (codes "rise") (First Rise z) p _ (λ k. (k, (n, tt)))
    (tried S w (codes "set") (First Set z) p _ (λ k. (k, (n, tt)))
    (tried S w (codes "height") (Height z) p _ (λ k. (k, (n, tt)))
    (tried S w (codes "table") (Table z) p None (λ k. (k, (n, tt))) (λ q. absurd (none-some p q)))))))
  where
    S : Order → Type 0
    S o = Say o (w ∷ v ∷ [])

-- a word and what may be a number
with_one_said : (w v : List ℕ) (o : Option ℤ) (p : Order) → number_of v ≡ o → with_one w o ≡ Some p → Say p (w ∷ v ∷ [])
with_one_said w v None p n e = absurd (none-some p e)
with_one_said w v (Some z) p n e = one_said w v z p n e

-- a word and what may be two numbers
with_two_said : (w v x : List ℕ) (o q : Option ℤ) (p : Order) → number_of v ≡ o → number_of x ≡ q → with_two w o q ≡ Some p → Say p (w ∷ v ∷ x ∷ [])
with_two_said w v x None q p m n e = absurd (none-some p e)
with_two_said w v x (Some y) None p m n e = absurd (none-some p e)
with_two_said w v x (Some y) (Some z) p m n e =
    tried (λ o. Say o (w ∷ v ∷ x ∷ [])) w (codes "spans") (Spans y z) p None (λ k. (k, (m, (n, tt)))) (λ q. absurd (none-some p q)) e

pub orders_told : OrdersTold
orders_told [] o e = absurd (none-some o e)
orders_told (w ∷ []) o e = tried (λ p. Say p (w ∷ [])) w (codes "table") Tables o None (λ k. (k, tt)) (λ q. absurd (none-some o q)) e
orders_told (w ∷ v ∷ []) o e = with_one_said w v (number_of v) o refl e
orders_told (w ∷ v ∷ x ∷ []) o e = with_two_said w v x (number_of v) (number_of x) o refl refl e
orders_told (w ∷ v ∷ x ∷ y ∷ ws) o e = absurd (none-some o e)
