-- The test whether two spans meet. Assumes nothing.
use Rattle.std.proofs.Common.{◌≡◌, ℕ, suc, ◌+◌, ◌-◌, ◌≤◌, ◌<◌, max, leb, ℤ, ◌-ℤ◌, nat_abs, Some, None, Option, MatchOption, Decides, sym, ap, ◌∙◌, add-one, arith}
use Rattle.std.proofs.lemmas.Bool.{le-leb, leb-true}
use Rattle.height.specs.declared.span.Span.{Span}
use Rattle.height.specs.Almanacs.{Almanac, Meets, AllMeet}
use Rattle.height.specs.Spans.{height, slope}

-- what the code worked out from two spans that it read, compared, decides whether they meet
pub met : (m : Almanac) (i n : ℕ) (one next : Span) (x y : ℤ) (a b j k : ℕ) → n ≡ m.fine → n ≡ 1024 → one ≡ m.span i → next ≡ m.span (i + 1) → x ≡ height 1024 one (n - 1) → y ≡ height 1024 next 0 → a ≡ nat_abs (y -ℤ x) → j ≡ slope 1024 one → k ≡ slope 1024 next → b ≡ max j k → Decides (leb a b) (Meets m i)
met m i n one next x y a b j k fine coarse one-is next-at x-is y-is a-is j-is k-is b-is =
    (λ t. to (leb-true a b t), λ h. le-leb a b (back h))
  where
    n_is : 1024 ≡ m.fine
    n_is = sym coarse ∙ fine

    next_is : next ≡ m.span (suc i)
    next_is = next-at ∙ ap m.span (add-one i)

    last : x ≡ height m.fine (m.span i) (m.fine - 1)
    last = x-is ∙ (λ v. height (n_is v) (one-is v) (fine v - 1))

    first : y ≡ height m.fine (m.span (suc i)) 0
    first = y-is ∙ (λ v. height (n_is v) (next_is v) 0)

    left : a ≡ nat_abs (height m.fine (m.span (suc i)) 0 -ℤ height m.fine (m.span i) (m.fine - 1))
    left = a-is ∙ (λ v. nat_abs (first v -ℤ last v))

    right : b ≡ max (slope m.fine (m.span i)) (slope m.fine (m.span (suc i)))
    right = b-is ∙ (λ v. max (j-is v) (k-is v)) ∙ (λ v. max (slope (n_is v) (one-is v)) (slope (n_is v) (next_is v)))

    to : a ≤ b → Meets m i
    to h = rw (← left, ← right) h

    back : Meets m i → a ≤ b
    back h = rw (left, right) h

-- the first of all joins at which two spans do not meet
abbrev pub FirstApart : (m : Almanac) (r : Option ℕ) → Type 0
FirstApart m None = AllMeet m
FirstApart m (Some i) = (suc i < m.spans) × (Meets m i → ⊥) × ((j : ℕ) → j < i → Meets m j)

-- as the search through all of them finds it
pub first_apart : (m : Almanac) (n : ℕ) (r : Option ℕ) → n ≡ m.spans → MatchOption r ((k : ℕ) → 0 ≤ k → k < n - 1 → Meets m k) (λ i. (0 ≤ i) × (i < n - 1) × (Meets m i → ⊥) × ((k : ℕ) → 0 ≤ k → k < i → Meets m k)) → FirstApart m r
first_apart m n None e h = λ i l. h i (omega arith) (omega arith)
first_apart m n (Some i) e h = (omega (arith, h.1), h.2, λ j l. h.3 j (omega arith) l)
