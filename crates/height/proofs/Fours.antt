-- A file's numbers, in fours and as spans. Assumes nothing.
use Rattle.std.proofs.Common.{◌≡◌, ℕ, zero, suc, ◌+◌, ◌*◌, ◌/◌, ◌^◌, ◌<◌, ◌≤◌, List, length, get_or, drop, ℤ, pos, nat_abs, sym, refl, ap, ◌∙◌, add-zero, zero-add, arith, w32, to_z, of_z, lit<, []}
use Rattle.std.specs.Simd.{first_chunks}
use Rattle.std.proofs.lemmas.List.{get_or-take, get_or-drop}
use Rattle.height.specs.declared.span.Span.{Span}
use Rattle.height.specs.Files.{Good, span_at}
use Rattle.height.specs.Spans.{Within}
use Rattle.height.proofs.Sums.{same}

-- the numbers of a span of a good file are small
pub small : (xs : List ℤ) (i : ℕ) → i < length xs / 4 → Good xs → Within (2 ^ 25) (span_at xs i)
small xs i h good =
    record {
      a = omega (arith, good.small (4 * i) (omega arith));
      b = omega (arith, good.small (4 * i + 1) (omega arith));
      c = omega (arith, good.small (4 * i + 2) (omega arith));
      d = omega (arith, good.small (4 * i + 3) (omega arith));
    }

-- number j of four i
four_at : (k i j : ℕ) (xs : List ℤ) → i < k → j < 4 → get_or (get_or (first_chunks 4 k xs) i []) j (pos 0) ≡ get_or xs (4 * i + j) (pos 0)
four_at zero i j xs h l = absurd (omega arith)
four_at (suc k) zero j xs h l = get_or-take 4 xs j (pos 0) l ∙ ap (λ (n : ℕ). get_or xs n (pos 0)) (sym (zero-add j))
four_at (suc k) (suc i) j xs h l =
    let e : 4 + (4 * i + j) ≡ 4 * suc i + j = omega arith in
    four_at k i j (drop 4 xs) (omega arith) l ∙ get_or-drop 4 xs (4 * i + j) (pos 0) ∙ ap (λ (n : ℕ). get_or xs n (pos 0)) e

-- four i, as the code reads it, is span i
pub four_is : (xs : List ℤ) (i : ℕ) (fours : List (List ℤ)) → fours ≡ first_chunks 4 (length xs / 4) xs → i < length xs / 4 → Good xs → ◌≡◌ {A = Span} (record { a = to_z w32 (of_z w32 (get_or (get_or fours i []) 0 (pos 0))); b = to_z w32 (of_z w32 (get_or (get_or fours i []) 1 (pos 0))); c = to_z w32 (of_z w32 (get_or (get_or fours i []) 2 (pos 0))); d = to_z w32 (of_z w32 (get_or (get_or fours i []) 3 (pos 0))) }) (span_at xs i)
four_is xs i fours e h good =
    let w = small xs i h good in
    (λ v. record { a = at 0 (4 * i) (lit< tt) (add-zero (4 * i)) w.a v; b = at 1 (4 * i + 1) (lit< tt) refl w.b v; c = at 2 (4 * i + 2) (lit< tt) refl w.c v; d = at 3 (4 * i + 3) (lit< tt) refl w.d v })
  where
    at : (j n : ℕ) → j < 4 → 4 * i + j ≡ n → nat_abs (get_or xs n (pos 0)) ≤ 2 ^ 25 → to_z w32 (of_z w32 (get_or (get_or fours i []) j (pos 0))) ≡ get_or xs n (pos 0)
    at j n l place w =
        ap (λ (x : ℤ). to_z w32 (of_z w32 x)) (ap (λ (ys : List (List ℤ)). get_or (get_or ys i []) j (pos 0)) e ∙ four_at (length xs / 4) i j xs h l ∙ ap (λ (k : ℕ). get_or xs k (pos 0)) place)
        ∙ same (get_or xs n (pos 0)) w
