-- The statements of specs/Promise.antt hold.
use Rattle.std.proofs.Common.{◌≡◌, ℕ, zero, suc, ◌+◌, ◌-◌, ◌*◌, ◌^◌, ◌<◌, ◌≤◌, Bool, true, false, T, ℤ, pos, negsuc, ◌-ℤ◌, ◌*ℤ◌, neg_ℤ, nat_abs, sym, refl, ap, ◌∙◌, subst, inl, inr, true≢false, le_trans, le_of_eq, lt_of_lt_of_le, mul-le-mul_right, add-mul, mul-lt-mul_of_pos_right, mul-pos, lt_of_not-le, not-le_of_lt, le_of_mul-le-mul_right, arith, lit<, lit≤, le→leb, leb→le, pow_pos, pow_mono, pow-add}
use lib.Ieee.{Float, nan, inf, fin, binary64, up, down, minus, size, round, neg, le}
use lib.Ieee.Digits.{size-lt}
use lib.Ieee.Fits.{down_pos, round-fits}
use lib.Ieee.Bits.{is_true}
use lib.Ieee.Exact.{HasValue}
use lib.Ieee.Order.{le_of_values, round_mono}
use Rattle.std.proofs.lemmas.Int.{ints}
use Rattle.std.proofs.lemmas.Bool.{cases_lt}
use Rattle.std.proofs.lemmas.Bool.Decides.{nat_tests}
use Rattle.binary.specs.Nearest.{nearest_over, leading, IsOver, leading_one, half_place_of, half_place}
use Rattle.binary.specs.Promise.{with_sign, Within, half_unit, Plain, Whole, Near, HalfAUnit, NotNegative, Zero, InOrder, Exact}
use Rattle.binary.proofs.Leading.{Off, to_digits, all_kept, at_least, digits_off}
use Rattle.binary.proofs.Values.{one_number}
use Rattle.binary.proofs.Over.{nearest_is, whole, exact, opposite, power_value, half_place_value}

-- the statements' range is well within the proofs'
far : (h : ℤ) → nat_abs h < 2 ^ 500 → nat_abs h < 2 ^ 1023
far h l = lt_of_lt_of_le l (lit≤ tt)

pub whole_stands : Whole
whole_stands b h B H = whole b h (omega arith) (far h H)

pub exact_stands : Exact
exact_stands b h B H small = subst (λ (z : ℤ). IsOver b (nearest_over b h) z) (exact h small) (whole_stands b h B H)

-- ---- near: the distance of two numbers, as naturals
neg_times : (a k : ℕ) → neg_ℤ (pos a) *ℤ pos k ≡ neg_ℤ (pos (a * k))
neg_times zero k = omega (arith, ints)
neg_times (suc a) k = refl

apart : (s : Bool) (x y : ℕ) → nat_abs (with_sign s x -ℤ with_sign s y) ≡ (x - y) + (y - x)
apart false x y = omega (arith, ints)
apart true x y = omega (arith, ints)

times : (s : Bool) (a k : ℕ) → with_sign s a *ℤ pos k ≡ with_sign s (a * k)
times false a k = refl
times true a k = neg_times a k

pub gap_is : (s : Bool) (a k n d : ℕ) → nat_abs ((with_sign s a *ℤ pos k) -ℤ (with_sign s n *ℤ pos d)) ≡ (a * k - n * d) + (n * d - a * k)
gap_is s a k n d = (λ i. nat_abs (times s a k i -ℤ times s n d i)) ∙ apart s (a * k) (n * d)

gap_le : (x y q m : ℕ) → x * q ≤ y * q + m → y * q ≤ x * q + m → ((x - y) + (y - x)) * q ≤ m
gap_le x y q m h k = elim (cases_lt x y) [
  | inl l ↦ let e : y * q ≡ x * q + ((x - y) + (y - x)) * q = ap (λ (z : ℕ). z * q) (sum l) ∙ add-mul x ((x - y) + (y - x)) q in omega arith
  | inr l ↦ let e : x * q ≡ y * q + ((x - y) + (y - x)) * q = ap (λ (z : ℕ). z * q) (sum' l) ∙ add-mul y ((x - y) + (y - x)) q in omega arith
]
  where
    sum : x < y → y ≡ x + ((x - y) + (y - x))
    sum l = omega arith

    sum' : y ≤ x → x ≡ y + ((x - y) + (y - x))
    sum' l = omega arith

-- x = a / d is w / k, y = m / e is j / (k * q), and w is off n by at most j / q
pub near_enough : (a k d n w m e q j : ℕ) → 0 < q → a * k ≡ w * d → m * (k * q) ≡ j * e → Off (n * q) j (w * q) → ((a * k - n * d) + (n * d - a * k)) * e ≤ m * (d * k)
near_enough a k d n w m e q j Q x y off =
    let g = (a * k - n * d) + (n * d - a * k) in
    let s : a * k * q ≡ w * d * q = ap (λ (z : ℕ). z * q) x in
    let l : g * q ≤ j * d = gap_le (a * k) (n * d) q (j * d) (omega (arith, mul-le-mul_right d off.0)) (omega (arith, mul-le-mul_right d off.1)) in
    le_of_mul-le-mul_right {k = q} (omega (arith, mul-le-mul_right e l, ap (λ (z : ℕ). z * d) y)) Q

near_by : (s : Bool) (x y : Float) (b n w j : ℕ) → HasValue x s w (2 ^ b) → HasValue y false j (2 ^ (b + 53)) → Off (n * 2 ^ 53) j (w * 2 ^ 53) → Within x b (with_sign s n) y
near_by s nan y b n w j v u off = absurd v
near_by s (inf t) y b n w j v u off = absurd v
near_by s (fin t m e) nan b n w j v u off = absurd u
near_by s (fin t m e) (inf r) b n w j v u off = absurd u
near_by s (fin t m e) (fin true k d) b n w j v u off = absurd (true≢false u.0)
near_by s (fin t m e) (fin false k d) b n w j v u off =
    let y : k * up d * (2 ^ b * 2 ^ 53) ≡ j * down d = ap (λ (z : ℕ). k * up d * z) (sym (pow-add 2 b 53)) ∙ u.1 in
    let near : ((m * up e * 2 ^ b - n * down e) + (n * down e - m * up e * 2 ^ b)) * down d ≤ k * up d * (down e * 2 ^ b) =
    near_enough (m * up e) (2 ^ b) (down e) n w (k * up d) (down d) (2 ^ 53) j (pow_pos 53) v.1 y off in
    record {
      finite_x = refl;
      finite_y = refl;
      off =
          record {
            le =
                le→leb _ _
                (subst (λ (g : ℕ). g * down d ≤ k * up d * (down e * 2 ^ b))
                (sym (ap (λ (t : Bool). nat_abs ((with_sign t (m * up e) *ℤ pos (2 ^ b)) -ℤ (with_sign s n *ℤ pos (down e)))) v.0 ∙ gap_is s (m * up e) (2 ^ b) n (down e))) near);
          };
    }

-- how far n is off its leading digits
pub off_by : (n k : ℕ) → size n ≡ k → Off (n * 2 ^ 53) (leading_one k) (leading n * 2 ^ 53)
unfolding leading
off_by n zero e =
    let z : n ≡ 0 = omega (arith, subst (λ (k : ℕ). n < 2 ^ k) e (size-lt n)) in
    let w : to_digits 53 n ≡ n = all_kept 53 n (omega arith) in
    (omega arith, omega arith)
off_by n (suc p) e = digits_off 53 n p e

near_at : (s : Bool) (b n : ℕ) → b ≤ 1074 → n < 2 ^ 1023 → Within (round binary64 s n (2 ^ b)) b (with_sign s n) (half_place_of b (size n))
near_at s b n B N = near_by s (round binary64 s n (2 ^ b)) (half_place_of b (size n)) b n (leading n) (leading_one (size n)) (nearest_is b n B N s) (half_place_value b (size n)) (off_by n (size n) refl)

pub near_stands : Near
unfolding nearest_over half_place
near_stands b (pos n) B H = near_at false b n (omega arith) (far (pos n) H)
near_stands b (negsuc n) B H = near_at true b (suc n) (omega arith) (far (negsuc n) H)

-- ---- zero
zero_is : (b : ℕ) → b ≤ 1074 → round binary64 false 0 (2 ^ b) ≡ fin false 0 (pos 0)
unfolding leading size
zero_is b B =
    one_number binary64 (round binary64 false 0 (2 ^ b)) (fin false 0 (pos 0)) false 0 b (1074 - b) (omega arith) (round-fits binary64 false 0 (2 ^ b)) (unfold lib.Ieee.fits in tt)
    (nearest_is b 0 B (pow_pos 1023) false) (refl, omega arith)

pub zero_stands : Zero
unfolding nearest_over half_place size
zero_stands b B = (zero_is b (omega arith), refl)

-- ---- half a unit
power_lt : (i j : ℕ) → 2 ^ i < 2 ^ j → i < j
power_lt i j h = lt_of_not-le (λ (g : j ≤ i). not-le_of_lt h (pow_mono g))

-- 2 ^ p / 2 ^ a is at most 2 ^ q / 2 ^ c
powers_le : (p a q c : ℕ) → p + c ≤ q + a → T (le (fin false 1 (minus p a)) (fin false 1 (minus q c)))
powers_le p a q c h =
    le_of_values (fin false 1 (minus p a)) (fin false 1 (minus q c)) (2 ^ p) (2 ^ a) (2 ^ q) (2 ^ c) (pow_pos a) (pow_pos c) (power_value p a) (power_value q c)
    (le_trans (le_of_eq (sym (pow-add 2 p c))) (le_trans (pow_mono h) (le_of_eq (pow-add 2 q a))))

half_unit_of : (x : Float) (s : Bool) (w b p : ℕ) → HasValue x s w (2 ^ b) → 2 ^ p ≤ w → T (le (fin false 1 (minus p (b + 53))) (half_unit x))
half_unit_of nan s w b p v h = absurd v
half_unit_of (inf t) s w b p v h = absurd v
half_unit_of (fin t zero e) s w b p v h = absurd (nothing (mul-pos (lt_of_lt_of_le (pow_pos p) h) (down_pos e)))
  where
    nothing : 0 < w * down e → ⊥
    nothing g = omega (arith, v.1)
half_unit_of (fin t (suc m) (pos k)) s w b p v h =
    let z = size (suc m) in
    let l : suc m * (2 ^ k * 2 ^ b) < 2 ^ z * (2 ^ k * 2 ^ b) = mul-lt-mul_of_pos_right (size-lt (suc m)) (mul-pos (pow_pos k) (pow_pos b)) in
    let e : 2 ^ z * (2 ^ k * 2 ^ b) ≡ 2 ^ (z + (k + b)) = ap (λ (y : ℕ). 2 ^ z * y) (sym (pow-add 2 k b)) ∙ sym (pow-add 2 z (k + b)) in
    let i : p < z + (k + b) = power_lt p (z + (k + b)) (omega (arith, v.1)) in
    powers_le p (b + 53) (k + z) 54 (omega arith)
half_unit_of (fin t (suc m) (negsuc k)) s w b p v h =
    let z = size (suc m) in
    let l : suc m * 2 ^ b < 2 ^ z * 2 ^ b = mul-lt-mul_of_pos_right (size-lt (suc m)) (pow_pos b) in
    let e : 2 ^ z * 2 ^ b ≡ 2 ^ (z + b) = sym (pow-add 2 z b) in
    let d : 2 ^ (p + suc k) ≡ 2 ^ p * 2 ^ suc k = pow-add 2 p (suc k) in
    let i : p + suc k < z + b = power_lt (p + suc k) (z + b) (omega (arith, v.1, mul-le-mul_right (2 ^ suc k) h)) in
    powers_le p (b + 53) z (suc k + 54) (omega arith)

half_unit_at : (s : Bool) (b n k : ℕ) → b ≤ 1074 → n < 2 ^ 1023 → 0 < n → size n ≡ k → T (le (half_place_of b k) (half_unit (round binary64 s n (2 ^ b))))
unfolding leading
half_unit_at s b n zero B N P e = absurd (omega (arith, subst (λ (k : ℕ). n < 2 ^ k) e (size-lt n)))
half_unit_at s b n (suc p) B N P e = half_unit_of (round binary64 s n (2 ^ b)) s (leading n) b p (nearest_is b n B N s) (at_least 53 n p (lit< tt) e)

pub half_a_unit_stands : HalfAUnit
unfolding nearest_over half_place size le
half_a_unit_stands b (pos zero) B H = ap (λ (x : Float). le (fin false 0 (pos 0)) (half_unit x)) (zero_is b (omega arith))
half_a_unit_stands b (pos (suc n)) B H = is_true _ (half_unit_at false b (suc n) (size (suc n)) (omega arith) (far (pos (suc n)) H) (omega arith) refl)
half_a_unit_stands b (negsuc n) B H = is_true _ (half_unit_at true b (suc n) (size (suc n)) (omega arith) (far (negsuc n) H) (omega arith) refl)

-- ---- not negative
plain : (x : Float) (w c : ℕ) → 0 < c → HasValue x false w c → Plain x
plain nan w c C v = absurd v
plain (inf t) w c C v = absurd v
plain (fin t m e) w c C v = record {
  plus = (m, e, ap (λ (s : Bool). fin s m e) v.0);
  from_zero = is_true _ (le_of_values (fin false 0 (pos 0)) (fin t m e) 0 1 w c (omega arith) C (refl, refl) v (omega arith));
}

pub not_negative_stands : NotNegative
unfolding nearest_over
not_negative_stands b (pos n) B H P = plain (round binary64 false n (2 ^ b)) (leading n) (2 ^ b) (pow_pos b) (nearest_is b n (omega arith) (far (pos n) H) false)
not_negative_stands b (negsuc n) B H P = absurd P.le

-- ---- in order
-- with a minus on both sides the order turns round
turned : (x y : Float) (w v c : ℕ) → HasValue x false w c → HasValue y false v c → le y x ≡ true → le (neg x) (neg y) ≡ true
unfolding le neg
turned nan y w v c p q h = absurd p
turned (inf s) y w v c p q h = absurd p
turned (fin s m e) nan w v c p q h = absurd q
turned (fin s m e) (inf t) w v c p q h = absurd q
turned (fin true m e) (fin t n d) w v c p q h = absurd (true≢false p.0)
turned (fin false m e) (fin true n d) w v c p q h = absurd (true≢false q.0)
turned (fin false m e) (fin false n d) w v c p q h = grind (arith, nat_tests)

-- and a number with a minus is below any with a plus
across : (x y : Float) (w v c : ℕ) → HasValue x true w c → HasValue y false v c → le x y ≡ true
unfolding le
across nan y w v c p q = absurd p
across (inf s) y w v c p q = absurd p
across (fin s m e) nan w v c p q = absurd q
across (fin s m e) (inf t) w v c p q = absurd q
across (fin false m e) (fin t n d) w v c p q = absurd (true≢false (sym p.0))
across (fin true m e) (fin true n d) w v c p q = absurd (true≢false q.0)
across (fin true m e) (fin false n d) w v c p q = grind (arith, nat_tests)

ordered : (b m n : ℕ) → m ≤ n → le (round binary64 false m (2 ^ b)) (round binary64 false n (2 ^ b)) ≡ true
ordered b m n h = is_true _ (round_mono binary64 m (2 ^ b) n (2 ^ b) (pow_pos b) (pow_pos b) (mul-le-mul_right (2 ^ b) h))

pub in_order_stands : InOrder
unfolding nearest_over
in_order_stands b (pos n) B H (pos m) G o = ordered b m n (leb→le m n o.le)
in_order_stands b (pos n) B H (negsuc m) G o =
    across (round binary64 true (suc m) (2 ^ b)) (round binary64 false n (2 ^ b)) (leading (suc m)) (leading n) (2 ^ b) (nearest_is b (suc m) (omega arith) (far (negsuc m) G) true) (nearest_is b n (omega arith) (far (pos n) H) false)
in_order_stands b (negsuc n) B H (pos m) G o = absurd o.le
in_order_stands b (negsuc n) B H (negsuc m) G o =
    let x = round binary64 false (suc m) (2 ^ b) in
    let y = round binary64 false (suc n) (2 ^ b) in
    sym (λ i. le (opposite b (suc m) (omega arith) (far (negsuc m) G) i) (opposite b (suc n) (omega arith) (far (negsuc n) H) i))
    ∙ turned x y (leading (suc m)) (leading (suc n)) (2 ^ b) (nearest_is b (suc m) (omega arith) (far (negsuc m) G) false) (nearest_is b (suc n) (omega arith) (far (negsuc n) H) false)
    (ordered b (suc n) (suc m) (omega (arith, leb→le n m o.le)))
