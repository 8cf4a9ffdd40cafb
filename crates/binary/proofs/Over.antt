-- A whole number over a power of two in binary64: what the nearest number is, that a division gives it, and half a place.
use Rattle.std.proofs.Common.{◌≡◌, ℕ, zero, suc, ◌+◌, ◌-◌, ◌*◌, ◌/◌, ◌%◌, ◌^◌, ◌<◌, ◌≤◌, Bool, true, false, cond, not, T, ltb, leb, ℤ, pos, negsuc, neg_ℤ, nat_abs, sym, refl, ap, ◌∙◌, subst, inl, inr, true≢false, le_trans, lt_of_lt_of_le, lt_of_le_of_lt, le_of_lt, mod-lt, one-mul, mul-div_cancel, arith, lit<, lit≤, le→leb, lt→ltb, leb→le, pow_pos, pow_mono, pow-add, shl_lt, shr_lt}
use lib.Dec.{nleb→lt}
use lib.Pow.{pow-lt, split}
use lib.Ieee.{Float, nan, inf, fin, binary64, down, minus, size, round, neg, add, mul, div, of_bits, to_bits, of_int, fits}
use lib.Ieee.Digits.{size-lt, size-le, minus_val}
use lib.Ieee.Fits.{round-fits, neg-fits, and_i}
use lib.Ieee.Exact.{HasValue}
use lib.Ieee.Back.{round_whole}
use lib.Ieee.Bits.{of_bits-to_bits}
use Rattle.std.proofs.lemmas.Bool.{cases_lt}
use Rattle.binary.specs.Nearest.{below_zero, nearest_over, leading, rounded, IsOver, leading_one, half_place_of}
use Rattle.binary.proofs.Leading.{all_kept, at_least}
use Rattle.binary.proofs.Values.{pattern_is, stretch, one_number, added, scaled, exact_over, below_overflow, rounded_over, divided_once}

-- ---- how many digits a number above zero has
counted : (n k : ℕ) → 0 < n → size n ≡ k → (j : ℕ) × (size n ≡ suc j)
counted n zero N e = absurd (none (subst (λ (k : ℕ). n < 2 ^ k) e (size-lt n)))
  where
    none : n < 1 → ⊥
    none h = omega arith
counted n (suc j) N e = (j, e)

pub some_digits : (n : ℕ) → 0 < n → (j : ℕ) × (size n ≡ suc j)
some_digits n N = counted n (size n) N refl

pub leading_pos : (n : ℕ) → 0 < n → 0 < leading n
unfolding leading
leading_pos n N = let k = some_digits n N in lt_of_lt_of_le (pow_pos k.0) (at_least 53 n k.0 (lit< tt) k.1)

-- ---- the nearest number
module _ (b n : ℕ) (B : b ≤ 1074) (N : n < 2 ^ 1023) (s : Bool) where
  reach : b + (1074 - b) ≡ 1074
  reach = omega arith

  pub nearest_is : HasValue (round binary64 s n (2 ^ b)) s (leading n) (2 ^ b)
  unfolding leading
  nearest_is = rounded_over binary64 b (1074 - b) reach s n N

  pub quotient_is : div binary64 (round binary64 s n 1) (fin false 1 (pos b)) ≡ round binary64 s n (2 ^ b)
  quotient_is = divided_once binary64 b (1074 - b) reach s n N (rounded_over binary64 0 1074 refl s n N)

-- an integer as a float, divided by 2 ^ b
pub quotient : (b : ℕ) (h : ℤ) → b ≤ 1074 → nat_abs h < 2 ^ 1023 → div binary64 (of_int binary64 h) (fin false 1 (pos b)) ≡ nearest_over b h
unfolding of_int nearest_over
quotient b (pos n) B N = quotient_is b n B N false
quotient b (negsuc n) B N = quotient_is b (suc n) B N true

-- a value with a minus, as that of an integer
below : (x : Float) (w c : ℕ) → 0 < w → HasValue x true w c → HasValue x (below_zero (neg_ℤ (pos w))) (nat_abs (neg_ℤ (pos w))) c
below x zero c W v = absurd (omega arith)
below x (suc w) c W v = v

pub whole : (b : ℕ) (h : ℤ) → b ≤ 1074 → nat_abs h < 2 ^ 1023 → IsOver b (nearest_over b h) (rounded h)
unfolding nearest_over
whole b (pos n) B N = nearest_is b n B N false
whole b (negsuc n) B N = below (round binary64 true (suc n) (2 ^ b)) (leading (suc n)) (2 ^ b) (leading_pos (suc n) (omega arith)) (nearest_is b (suc n) B N true)

pub exact : (h : ℤ) → nat_abs h < 2 ^ 53 → rounded h ≡ h
unfolding leading
exact (pos n) N = ap pos (all_kept 53 n (size-le n 53 N))
exact (negsuc n) N = ap (λ (k : ℕ). neg_ℤ (pos k)) (all_kept 53 (suc n) (size-le (suc n) 53 N))

-- ---- with a minus
negated : (x : Float) (a c : ℕ) → HasValue x false a c → HasValue (neg x) true a c
unfolding neg
negated nan a c v = v
negated (inf s) a c v = v
negated (fin false m e) a c v = (refl, v.1)
negated (fin true m e) a c v = (absurd (true≢false v.0), v.1)

pub opposite : (b n : ℕ) → b ≤ 1074 → n < 2 ^ 1023 → neg (round binary64 false n (2 ^ b)) ≡ round binary64 true n (2 ^ b)
opposite b n B N =
    one_number binary64 (neg (round binary64 false n (2 ^ b))) (round binary64 true n (2 ^ b)) true (leading n) b (1074 - b) (omega arith)
    (neg-fits binary64 (round binary64 false n (2 ^ b)) (round-fits binary64 false n (2 ^ b))) (round-fits binary64 true n (2 ^ b))
    (negated (round binary64 false n (2 ^ b)) (leading n) (2 ^ b) (nearest_is b n B N false)) (nearest_is b n B N true)

-- ---- half a place: 2 ^ p over 2 ^ l
pub power_value : (p l : ℕ) → HasValue (fin false 1 (minus p l)) false (2 ^ p) (2 ^ l)
power_value p l = (refl, minus_val 1 p l ∙ ap (λ (z : ℕ). z * down (minus p l)) (one-mul (2 ^ p)))

whole_power_fits : (p : ℕ) → p < 1024 → T (fits binary64 (fin false 1 (pos p)))
unfolding fits
whole_power_fits p P = lt→ltb (1 * 2 ^ p) (2 ^ 1024) (subst (λ (z : ℕ). z < 2 ^ 1024) (sym (one-mul (2 ^ p))) (pow-lt {i = p} {j = 1024} P))

power_fits : (p l : ℕ) → p < 1024 → l ≤ 1074 → T (fits binary64 (fin false 1 (minus p l)))
unfolding fits
power_fits p l P L = go (leb l p) (leb→le l p) (nleb→lt l p)
  where
    go : (t : Bool) → (T t → l ≤ p) → (T (not t) → p < l) → T (fits binary64 (fin false 1 (cond t (pos (p - l)) (negsuc (l - suc p)))))
    go true a c = whole_power_fits (p - l) (omega arith)
    go false a c =
        and_i (leb (2 ^ suc (l - suc p)) (2 ^ 1074)) (ltb 1 (2 ^ 1024 * 2 ^ suc (l - suc p)))
        (le→leb (2 ^ suc (l - suc p)) (2 ^ 1074) (pow_mono {i = suc (l - suc p)} {j = 1074} (less (c tt))))
        (lt→ltb 1 (2 ^ 1024 * 2 ^ suc (l - suc p)) (subst (λ (z : ℕ). 1 < z) (pow-add 2 1024 (suc (l - suc p))) (pow-lt {i = 0} {j = 1024 + suc (l - suc p)} (omega arith))))
      where
        less : p < l → suc (l - suc p) ≤ 1074
        less h = omega arith

-- ---- 2 ^ p, from its bit pattern
size_of_power : (k : ℕ) → size (2 ^ k) ≡ suc k
size_of_power k = elim (cases_lt k (size (2 ^ k))) [
  | inl l ↦ omega (arith, size-le (2 ^ k) (suc k) (pow-lt {i = k} {j = suc k} (omega arith)))
  | inr l ↦ absurd (omega (arith, size-lt (2 ^ k), pow_mono {i = size (2 ^ k)} {j = k} l))
]

pub power_is : (p : ℕ) → p ≤ 1023 → of_bits binary64 ((p + 1023) * 2 ^ 52) ≡ fin false 1 (pos p)
power_is p P =
    let x = fin false 1 (pos p) in
    let k = p + 1022 in
    let units : 2 ^ p * 2 ^ 1074 ≡ 2 ^ 52 * 2 ^ k = sym (pow-add 2 p 1074) ∙ ap (λ (j : ℕ). 2 ^ j) (omega arith) ∙ pow-add 2 52 k in
    let digits : size (2 ^ p * 2 ^ 1074) - 53 ≡ k = ap (λ (n : ℕ). size n - 53) (sym (pow-add 2 p 1074)) ∙ ap (λ (j : ℕ). j - 53) (size_of_power (p + 1074)) ∙ omega arith in
    let fraction : 2 ^ p * 2 ^ 1074 / 2 ^ k ≡ 2 ^ 52 = ap (λ (n : ℕ). n / 2 ^ k) units ∙ mul-div_cancel (2 ^ 52) (pow_pos k) in
    let value : HasValue x false (2 ^ p * 2 ^ 1074) (2 ^ 1074) = stretch x false (2 ^ p) 1 (2 ^ 1074) (refl, omega arith) in
    let pattern : to_bits binary64 x ≡ (p + 1023) * 2 ^ 52 =
    pattern_is binary64 x false (2 ^ p * 2 ^ 1074) value ∙ ap (λ (j : ℕ). 0 + j * 2 ^ 52 + 2 ^ p * 2 ^ 1074 / 2 ^ j) digits ∙ ap (λ (n : ℕ). 0 + k * 2 ^ 52 + n) fraction ∙ omega arith in
    ap (of_bits binary64) (sym pattern) ∙ of_bits-to_bits binary64 x (whole_power_fits p (omega arith))

pub half_place_value : (b k : ℕ) → HasValue (half_place_of b k) false (leading_one k) (2 ^ (b + 53))
half_place_value b zero = (refl, omega arith)
half_place_value b (suc p) = power_value p (b + 53)

half_place_fits : (b k : ℕ) → b ≤ 1021 → k ≤ 1024 → T (fits binary64 (half_place_of b k))
unfolding fits
half_place_fits b zero B K = tt
half_place_fits b (suc p) B K = power_fits p (b + 53) (omega arith) (omega arith)

few_digits : (k : ℕ) → (q : ℕ) × (j : ℕ) × (q < 2 ^ 53) × (leading_one k ≡ q * 2 ^ j)
few_digits zero = (0, 0, lit< tt, refl)
few_digits (suc p) = (1, p, lit< tt, sym (one-mul (2 ^ p)))

leading_one_le : (k : ℕ) → k ≤ 1000 → leading_one k ≤ 2 ^ 1000
leading_one_le zero K = lit≤ tt
leading_one_le (suc p) K = pow_mono {i = p} {j = 1000} (omega arith)

-- the leading one as a float, divided by 2 ^ (b + 53)
pub half_quotient : (b k : ℕ) → b ≤ 1000 → k ≤ 1000 → div binary64 (of_int binary64 (pos (leading_one k))) (fin false 1 (pos (b + 53))) ≡ half_place_of b k
unfolding nearest_over
half_quotient b k B K =
    let a = leading_one k in
    let t = 1074 - (b + 53) in
    let reach : b + 53 + t ≡ 1074 = omega arith in
    let short = few_digits k in
    let small = leading_one_le k K in
    let exactly = exact_over binary64 (b + 53) t reach false a short.0 short.1 short.2 short.3 (below_overflow binary64 (b + 53) t reach false a (le_trans small (lit≤ tt))) in
    quotient (b + 53) (pos a) (omega arith) (lt_of_le_of_lt small (lit< tt))
    ∙ one_number binary64 (round binary64 false a (2 ^ (b + 53))) (half_place_of b k) false a (b + 53) t reach (round-fits binary64 false a (2 ^ (b + 53))) (half_place_fits b k (omega arith) (omega arith)) exactly (half_place_value b k)

-- ---- a whole number from two parts of at most k digits, which binary64 holds: it is rounded once, where the parts are added
of_int_is : (n : ℕ) → of_int binary64 (pos n) ≡ round binary64 false n 1
unfolding of_int
of_int_is n = refl

module _ (k n : ℕ) (K : k ≤ 53) (N : n < 2 ^ (k + k)) where
  part : (a : ℕ) → a < 2 ^ k → HasValue (of_int binary64 (pos a)) false a 1
  part a h = subst (λ (z : Float). HasValue z false a 1) (sym (of_int_is a)) (round_whole binary64 false a (le_of_lt (lt_of_lt_of_le h (pow_mono {i = k} {j = 53} K))))

  upper : HasValue (mul binary64 (of_int binary64 (pos (n / 2 ^ k))) (fin false 1 (pos k))) false (n / 2 ^ k * 2 ^ k) 1
  upper =
      let a = n / 2 ^ k in
      let h : a < 2 ^ k = shr_lt k k N in
      let room : a * 2 ^ k ≤ 2 ^ 1023 = le_of_lt (lt_of_lt_of_le (shl_lt k k h) (pow_mono {i = k + k} {j = 1023} (omega arith))) in
      subst (λ (z : Float). HasValue z false (a * 2 ^ k) 1) (sym (scaled binary64 (of_int binary64 (pos a)) a k (part a h)))
      (exact_over binary64 0 1074 refl false (a * 2 ^ k) a k (lt_of_lt_of_le h (pow_mono {i = k} {j = 53} K)) refl (below_overflow binary64 0 1074 refl false (a * 2 ^ k) room))

  pub parts : add binary64 (mul binary64 (of_int binary64 (pos (n / 2 ^ k))) (fin false 1 (pos k))) (of_int binary64 (pos (n % 2 ^ k))) ≡ of_int binary64 (pos n)
  parts =
      added binary64 (mul binary64 (of_int binary64 (pos (n / 2 ^ k))) (fin false 1 (pos k))) (of_int binary64 (pos (n % 2 ^ k))) (n / 2 ^ k * 2 ^ k) (n % 2 ^ k) upper (part (n % 2 ^ k) (mod-lt n (pow_pos k)))
      ∙ ap (λ (z : ℕ). round binary64 false z 1) (split n k)
      ∙ sym (of_int_is n)

-- with a minus
pub minus_whole : (n : ℕ) → suc n < 2 ^ 1023 → neg (of_int binary64 (pos (suc n))) ≡ of_int binary64 (negsuc n)
unfolding of_int
minus_whole n N = opposite 0 (suc n) (lit≤ tt) N
