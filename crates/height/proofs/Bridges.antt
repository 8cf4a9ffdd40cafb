-- The customary forms say the same. Assumes nothing.
use Rattle.std.proofs.Common.{◌≡◌, ℕ, ◌+◌, ◌-◌, ◌*◌, ◌/◌, ◌%◌, ◌^◌, ◌<◌, ◌≤◌, Bool, leb, List, length, get_or, ℤ, pos, ◌+ℤ◌, ◌*ℤ◌, nat_abs, Decides, refl, subst, inl, inr, arith, lit<}
use borrow.Author.Differences.{ints}
use Rattle.std.proofs.lemmas.Bool.{le-leb, leb-true, cases_eq}
use Rattle.std.proofs.lemmas.Bool.Decides.{Decides-and, Decides-like, Decides-eqb, Decides-below_and}
use Rattle.integers.proofs.Floor.{floor_is}
use Rattle.integers.proofs.Ring.{ring}
use Rattle.height.specs.declared.span.Span.{Span}
use Rattle.height.specs.Almanacs.{rounded, Meets}
use Rattle.height.specs.Customary.{Nested, HalfAdded, all_below, small_span, small_almanac, CheckedBySpans, meets_next, MeetsByJoins}
use Rattle.height.specs.Files.{span_at, Good}
use Rattle.height.specs.Spans.{height, Within}

nested_over : (a b c d n u : ℤ) → a *ℤ (n *ℤ (n *ℤ n)) +ℤ b *ℤ (u *ℤ (n *ℤ n)) +ℤ c *ℤ (u *ℤ (u *ℤ n)) +ℤ d *ℤ (u *ℤ (u *ℤ u)) ≡ (((a *ℤ n +ℤ b *ℤ u) *ℤ n +ℤ c *ℤ (u *ℤ u)) *ℤ n) +ℤ d *ℤ (u *ℤ (u *ℤ u))
nested_over a b c d n u = simp ring

pub nested : Nested
unfolding height
nested s u = nested_over s.a s.b s.c s.d (pos 1024) (pos u)

pub half_added : HalfAdded
unfolding rounded
half_added h =
    let p = floor_is (h +ℤ pos 536870912) 1073741824 (lit< tt) in
    let q = floor_is (h +ℤ h +ℤ pos 1073741824) 2147483648 (lit< tt) in
    omega (arith, ints)

decides_leb : (a b : ℕ) → Decides (leb a b) (a ≤ b)
decides_leb a b = (leb-true a b, le-leb a b)

-- a test of all numbers below n decides it of each
decides_all : (n : ℕ) (f : ℕ → Bool) (P : ℕ → Type 0) → ((k : ℕ) → Decides (f k) (P k)) → Decides (all_below n f) ((k : ℕ) → k < n → P k)
unfolding all_below
decides_all n f P each = Decides-below_and f P (λ k. all_below k f) each refl (λ k. refl) n

span_decides : (s : Span) → Decides (small_span s) (Within (2 ^ 24) s)
unfolding small_span
span_decides s =
    Decides-like _ (λ p. record { a = p.0; b = p.1.0; c = p.1.1.0; d = p.1.1.1 }) (λ w. (w.a, (w.b, (w.c, w.d))))
    (Decides-and _ _ (decides_leb (nat_abs s.a) (2 ^ 24)) (Decides-and _ _ (decides_leb (nat_abs s.b) (2 ^ 24)) (Decides-and _ _ (decides_leb (nat_abs s.c) (2 ^ 24)) (decides_leb (nat_abs s.d) (2 ^ 24)))))

-- a number of the file is one of a span's four
of_span : (xs : List ℤ) (k : ℕ) → Within (2 ^ 24) (span_at xs (k / 4)) → nat_abs (get_or xs k (pos 0)) ≤ 2 ^ 24
of_span xs k w =
    let i = k / 4 in
    let at : (n : ℕ) → n ≡ k → nat_abs (get_or xs n (pos 0)) ≤ 2 ^ 24 → nat_abs (get_or xs k (pos 0)) ≤ 2 ^ 24 = λ n e h. subst (λ (v : ℕ). nat_abs (get_or xs v (pos 0)) ≤ 2 ^ 24) e h in
    elim (cases_eq (k % 4) 0) [
      | inl p ↦ at (4 * i) (omega (arith, p)) w.a
      | inr p ↦ elim (cases_eq (k % 4) 1) [
        | inl q ↦ at (4 * i + 1) (omega (arith, q)) w.b
        | inr q ↦ elim (cases_eq (k % 4) 2) [
          | inl r ↦ at (4 * i + 2) (omega (arith, r)) w.c
          | inr r ↦ at (4 * i + 3) (omega (arith, p, q, r)) w.d
        ]
      ]
    ]

pub checked_by_spans : CheckedBySpans
unfolding small_almanac
checked_by_spans xs =
    Decides-like _ to back
    (Decides-and _ _ (Decides-eqb (length xs % 4) 0) (Decides-and _ _ (decides_leb 1 (length xs / 4)) (Decides-and _ _ (decides_leb (length xs / 4) 4096)
    (decides_all (length xs / 4) (λ i. small_span (span_at xs i)) (λ i. Within (2 ^ 24) (span_at xs i)) (λ i. span_decides (span_at xs i))))))
  where
    to : (length xs % 4 ≡ 0) × ((1 ≤ length xs / 4) × ((length xs / 4 ≤ 4096) × ((i : ℕ) → i < length xs / 4 → Within (2 ^ 24) (span_at xs i)))) → Good xs
    to p =
        record { fours = p.0; some = omega (arith, p.1.0); few = omega (arith, p.0, p.1.1.0); small = λ k h. of_span xs k (p.1.1.1 (k / 4) (omega (arith, p.0))) }

    back : Good xs → (length xs % 4 ≡ 0) × ((1 ≤ length xs / 4) × ((length xs / 4 ≤ 4096) × ((i : ℕ) → i < length xs / 4 → Within (2 ^ 24) (span_at xs i))))
    back g = (
      g.fours,
      (
        omega (arith, g.some),
        (
          omega (arith, g.few),
          λ i h. record { a = g.small (4 * i) (omega arith); b = g.small (4 * i + 1) (omega arith); c = g.small (4 * i + 2) (omega arith); d = g.small (4 * i + 3) (omega arith) },
        ),
      ),
    )

pub meets_by_joins : MeetsByJoins
unfolding meets_next
meets_by_joins m =
    Decides-like _ (λ all i h. all i (omega arith)) (λ all i h. all i (omega arith))
    (decides_all (m.spans - 1) (meets_next m) (Meets m) (λ i. decides_leb _ _))
