-- A number to its p leading binary digits. Nothing here is about floats.
use Rattle.std.proofs.Common.{◌≡◌, ℕ, zero, suc, ◌+◌, ◌-◌, ◌*◌, ◌/◌, ◌%◌, ◌^◌, ◌<◌, ◌≤◌, sym, refl, ap, ◌∙◌, inl, inr, le_trans, le_of_eq, mul-le-mul_right, mod-lt, eq-or-lt_of_le, div-add-mod', le-div_iff_mul-le, arith, pow_pos, pow_mono, pow-add}
use Prim.Native.Nat.{compare, Ordering}
use native.Mathlib.Omega.{compare-lt, compare-eq, compare-gt}
use lib.Pow.{pow-lt}
use lib.Count.{count_leading_zeros, leading_length}
use lib.Ieee.{size, nearest}
use lib.Ieee.Digits.{size-lt, size-le, size_reaches}
use lib.Ieee.Fits.{kept-lt, nearest-le}
use lib.Ieee.Nearest.{closest, nearest-ge}
use Rattle.std.proofs.lemmas.Bool.{cases_lt}

-- n to its p leading digits: the nearest number that has zeros behind them
abbrev pub to_digits : ℕ → ℕ → ℕ
to_digits p n = closest n (2 ^ (size n - p)) * 2 ^ (size n - p)

-- ---- how many digits a number of w bits has
pub size_is : (w n : ℕ) → n < 2 ^ w → w - count_leading_zeros w n ≡ size n
size_is w n h =
    let k = leading_length w n h in
    elim (cases_lt (size n) k.0) [
      | inl l ↦ absurd (omega (arith, size-lt n, k.3, pow-add 2 (size n) 1, pow_mono {i = size n + 1} {j = k.0} (omega arith)))
      | inr l ↦ omega (arith, k.1, size-le n k.0 k.2)
    ]

-- w is off n by at most e
abbrev pub Off : ℕ → ℕ → ℕ → Type 0
Off n e w = (w ≤ n + e) × (n ≤ w + e)

-- ---- the nearest multiple of u is off by at most half of u
half_off : (n u q r : ℕ) (o : Ordering) → compare (r * 2) u ≡ o → q * u + r ≡ n → r < u → Off (n * 2) u (nearest q o * u * 2)
half_off n u q r Ordering.lt e s l = let h = compare-lt (r * 2) u e in (omega arith, omega arith)
half_off n u q r Ordering.eq e s l = go (q % 2) (omega arith) (compare-eq (r * 2) u e)
  where
    go : (t : ℕ) → t < 2 → r * 2 ≡ u → Off (n * 2) u ((q + t) * u * 2)
    go zero k h = (omega arith, omega arith)
    go (suc zero) k h = (omega arith, omega arith)
    go (suc (suc t)) k h = absurd (omega arith)
half_off n u q r Ordering.gt e s l = let h = compare-gt (r * 2) u e in (omega arith, omega arith)

closest_off : (n u : ℕ) → 0 < u → Off (n * 2) u (closest n u * u * 2)
closest_off n u U = half_off n u (n / u) (n % u) (compare (n % u * 2) u) refl (div-add-mod' n u) (mod-lt n U)

-- ---- a number with few digits is kept whole
pub all_kept : (p n : ℕ) → size n ≤ p → to_digits p n ≡ n
all_kept p n h =
    let none : size n - p ≡ 0 = omega arith in
    let off = closest_off n 1 (omega arith) in
    let whole : closest n 1 * 1 ≡ n = omega (arith, off.0, off.1) in
    ap (λ (d : ℕ). closest n (2 ^ d) * 2 ^ d) none ∙ whole

-- ---- of one with more, the digit kept last is worth 2 ^ (size n - p)
module _ (p n : ℕ) where
  kept_at_most : closest n (2 ^ (size n - p)) ≤ 2 ^ p
  kept_at_most = le_trans (nearest-le (n / 2 ^ (size n - p)) (compare (n % 2 ^ (size n - p) * 2) (2 ^ (size n - p)))) (kept-lt p n)

  pub at_most : (k : ℕ) → n < 2 ^ k → to_digits p n ≤ 2 ^ k
  at_most k h = elim (cases_lt p (size n)) [
    | inl l ↦
        le_trans (mul-le-mul_right (2 ^ (size n - p)) kept_at_most)
        (le_trans (le_of_eq (sym (pow-add 2 p (size n - p)))) (pow_mono {i = p + (size n - p)} {j = k} (omega (arith, size-le n k h))))
    | inr l ↦ omega (arith, all_kept p n l)
  ]

  pub at_least : (j : ℕ) → 0 < p → size n ≡ suc j → 2 ^ j ≤ to_digits p n
  at_least j P e =
      let d = size n - p in
      let s : 2 ^ (j - d) * 2 ^ d ≡ 2 ^ j = sym (pow-add 2 (j - d) d) ∙ ap (λ (k : ℕ). 2 ^ k) (omega arith) in
      let r : 2 ^ j ≤ n = size_reaches n j (omega arith) in
      let k : 2 ^ (j - d) ≤ n / 2 ^ d = (le-div_iff_mul-le (pow_pos d)).1 (le_trans (le_of_eq s) r) in
      le_trans (le_of_eq (sym s)) (mul-le-mul_right (2 ^ d) (le_trans k (nearest-ge (n / 2 ^ d) (compare (n % 2 ^ d * 2) (2 ^ d)))))

  -- it has p digits, and zeros behind them
  pub short : 0 < p → (q : ℕ) × (j : ℕ) × (q < 2 ^ p) × (to_digits p n ≡ q * 2 ^ j)
  short P = elim (eq-or-lt_of_le kept_at_most) [
    | inl e ↦ (1, p + (size n - p), pow-lt {i = 0} P, ap (λ (q : ℕ). q * 2 ^ (size n - p)) e ∙ sym (pow-add 2 p (size n - p)) ∙ omega arith)
    | inr l ↦ (closest n (2 ^ (size n - p)), size n - p, l, refl)
  ]

  -- it is off by at most half of what its last digit is worth: 2 ^ (j + 1 - p) / 2
  pub digits_off : (j : ℕ) → size n ≡ suc j → Off (n * 2 ^ p) (2 ^ j) (to_digits p n * 2 ^ p)
  digits_off j e = elim (cases_lt p (size n)) [
    | inl l ↦
        let d = size n - p in
        let u : 2 ^ d * 2 ^ p ≡ 2 ^ j * 2 = sym (pow-add 2 d p) ∙ ap (λ (k : ℕ). 2 ^ k) (omega arith) ∙ pow-add 2 j 1 in
        let off = closest_off n (2 ^ d) (pow_pos d) in
        (omega (arith, mul-le-mul_right (2 ^ p) off.0), omega (arith, mul-le-mul_right (2 ^ p) off.1))
    | inr l ↦ let k = ap (λ (w : ℕ). w * 2 ^ p) (all_kept p n l) in (omega arith, omega arith)
  ]
