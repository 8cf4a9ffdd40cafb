-- The first tick in which a condition becomes as wanted. Assumes nothing.
use Rattle.std.proofs.Common.{◌≡◌, ℕ, zero, suc, ◌-◌, ◌<◌, ◌≤◌, Bool, true, false, not, Option, Some, None, unwrap_or, sym, ap, ◌∙◌, inl, inr, arith}
use Rattle.std.proofs.Math.Bool.{not-not}
use Rattle.std.proofs.lemmas.Bool.{cases_lt}
use Rattle.crossing.specs.Above.{becomes}
use Rattle.crossing.proofs.Turns.{clash, becomes_here, not_from, not_to, not_at_first}
use Rattle.search.specs.Walks.{First}

-- As wanted before the tick a, and not from there on: from the tick behind the first of these up to v it becomes so in none.
no_turn : (f : ℕ → Bool) (w : Bool) (t s a v : ℕ) → s ≡ t - 1 → ((u : ℕ) → s ≤ u → u < a → f u ≡ not (not w)) → ((u : ℕ) → a ≤ u → u < v → f u ≡ not w) → (u : ℕ) → t ≤ u → u < v → becomes w f u ≡ false
no_turn f w t s a v s-is is isnt zero l m = not_at_first w f
no_turn f w t s a v s-is is isnt (suc u) l m =
    elim (cases_lt u a) [
      | inl k ↦ not_from w f u (is u (omega arith) k ∙ not-not w)
      | inr k ↦ not_to w f u (isnt (suc u) (omega arith) m)
    ]

-- the first that is as wanted, behind the first that is not, is the first that becomes so
pub turn : (f : ℕ → Bool) (w : Bool) (t s stop : ℕ) (other found : Option ℕ) → t < stop → s ≡ t - 1 → First f (not w) s stop other → First f w (unwrap_or other stop) stop found → First (becomes w f) true t stop found
turn f w t s stop None None lt s-is p q = no_turn f w t s stop stop s-is p q
turn f w t s stop None (Some r) lt s-is p q = absurd (omega (arith, q.0, q.1))
turn f w t s stop (Some a) None lt s-is p q = no_turn f w t s a stop s-is p.3 q
turn f w t s stop (Some a) (Some r) lt s-is p q = (
  omega (arith, apart, p.0),
  q.1,
  at r (omega (arith, apart)) q.2 (q.3 (r - 1) (omega (arith, apart)) (omega (arith, apart))),
  no_turn f w t s a r s-is p.3 q.3,
)
  where
    -- what is found is not the tick from which it was looked for
    apart : a < r
    apart =
        elim (cases_lt a r) [
          | inl k ↦ k
          | inr k ↦ (let e : a ≡ r = omega (arith, q.0) in absurd (clash w (sym (sym p.2 ∙ ap f e ∙ q.2))))
        ]

    at : (u : ℕ) → 0 < u → f u ≡ w → f (u - 1) ≡ not w → becomes w f u ≡ true
    at zero h i j = absurd (omega arith)
    at (suc v) h i j = let e : v ≡ suc v - 1 = omega arith in becomes_here w f v i (ap f e ∙ j)
