-- The highest tick, tick by tick. Assumes nothing.
use Rattle.std.proofs.Common.{◌≡◌, ℕ, ◌+◌, ◌<◌, ◌⊎◌, ℤ, pos, negsuc, ◌≤ℤ◌, ◌<ℤ◌, sym, ap, ◌∙◌, subst, inl, inr, arith}
use Rattle.std.proofs.lemmas.Int.{ints}
use Rattle.std.proofs.lemmas.Bool.{cases_eq, cases_lt}
use Rattle.height.specs.Almanacs.{Almanac, height_at, ticks}
use Rattle.bridge.specs.declared.highest.Peak.{Peak}
use Rattle.bridge.specs.Peaks.{Peaked}

below_or : (a b : ℤ) → (a <ℤ b) ⊎ (b ≤ℤ a)
below_or (pos a) (pos b) = elim (cases_lt a b) [ inl h ↦ inl (omega (arith, ints, h)) | inr h ↦ inr (omega (arith, ints, h)) ]
below_or (pos a) (negsuc b) = inr (omega (arith, ints))
below_or (negsuc a) (pos b) = inl (omega (arith, ints))
below_or (negsuc a) (negsuc b) = elim (cases_lt b a) [ inl h ↦ inl (omega (arith, ints, h)) | inr h ↦ inr (omega (arith, ints, h)) ]

under : (a b c : ℤ) → a ≤ℤ b → b <ℤ c → a <ℤ c
under a b c p q = omega (arith, ints)

loose : (a b : ℤ) → a <ℤ b → a ≤ℤ b
loose a b p = omega (arith, ints)

same : (a b : ℤ) → a ≡ b → a ≤ℤ b
same a b e = omega (arith, ints)

raised : (m : Almanac) (t : ℕ) (p : Peak) (h : ℤ) → t < ticks m → h ≡ height_at m t → p.height <ℤ h → Peaked m t p → Peaked m (t + 1) (record { tick = t; height = h })
raised m t p h inside h-is up was = record {
  height = h-is;
  inside = inside;
  most = λ u lt.
      elim (cases_eq u t) [
        | inl e ↦ same (height_at m u) h (ap (height_at m) e ∙ sym h-is)
        | inr apart ↦ loose (height_at m u) h (under (height_at m u) p.height h (was.most u (omega (arith, apart))) up)
      ];
  first = λ u lt. under (height_at m u) p.height h (was.most u lt) up;
}

stayed : (m : Almanac) (t : ℕ) (p : Peak) → height_at m t ≤ℤ p.height → Peaked m t p → Peaked m (t + 1) p
stayed m t p down was = record {
  height = was.height;
  inside = was.inside;
  most = λ u lt.
      elim (cases_eq u t) [
        | inl e ↦ subst (λ (v : ℕ). height_at m v ≤ℤ p.height) (sym e) down
        | inr apart ↦ was.most u (omega (arith, apart))
      ];
  first = was.first;
}

-- the peak after one more tick
pub peak_more : (m n : Almanac) (t u : ℕ) (p q : Peak) (h : ℤ) → n ≡ m → u ≡ t + 1 → t < ticks n → h ≡ height_at n t → (p.height <ℤ h → q ≡ record { tick = t; height = h }) → (h ≤ℤ p.height → q ≡ p) → Peaked m t p → Peaked m u q
peak_more m n t u p q h n_is u-is inside h-is up stays was =
    subst (λ (v : ℕ). Peaked m v q) (sym u-is)
    (elim (below_or p.height h) [
      | inl higher ↦ subst (Peaked m (t + 1)) (sym (up higher)) (raised m t p h (subst (λ (x : Almanac). t < ticks x) n_is inside) here higher was)
      | inr not-higher ↦ subst (Peaked m (t + 1)) (sym (stays not-higher)) (stayed m t p (subst (λ (z : ℤ). z ≤ℤ p.height) here not-higher) was)
    ])
  where
    here : h ≡ height_at m t
    here = h-is ∙ ap (λ (x : Almanac). height_at x t) n_is
