-- The texts of binary64 numbers. Assumes nothing.
use Rattle.std.proofs.Common.{◌≡◌, ℕ, zero, suc, ◌+◌, ◌*◌, ◌/◌, ◌%◌, ◌^◌, ◌<◌, ◌≤◌, Bool, true, List, [], ◌++◌, ℤ, pos, negsuc, ◌-ℤ◌, ◌*ℤ◌, neg_ℤ, nat_abs, codes, sym, refl, ap, ◌∙◌, subst, lt_of_lt_of_le, lt_of_le_of_lt, le_of_lt, le_trans, div-lt_iff_lt-mul, arith, lit<, pow_pos, pow_mono, pow-add}
use native.Mathlib.Nat.{eq_of_mul-eq-mul_right, zero-div, zero-mod}
use lib.Ieee.{Float, nan, inf, fin, up, down, size}
use lib.Ieee.Exact.{HasValue}
use lib.Pow.{pow-lt}
use Rattle.std.proofs.lemmas.Int.{ints}
use Rattle.std.proofs.lemmas.Fmt.{decimal_digit}
use Rattle.binary.specs.Nearest.{IsOver, RoundedOver, below_zero, half_place, leading, leading_one, nearest_over, rounded}
use Rattle.binary.specs.Promise.{with_sign}
use Rattle.binary.proofs.Coded.{one_below, rounded_holds, size_of}
use Rattle.binary.proofs.Over.{half_place_value, leading_pos}
use Rattle.binary.proofs.Stands.{gap_is, near_enough, off_by}
use Rattle.decimal.specs.Figures.{error_text, float_text, fraction_text, part_text}
use Rattle.decimal.specs.Promise.{ErrorExact, FloatExact, OffBy, Says, SaysOver, WrittenNear, Zero}
use Rattle.decimal.proofs.Back.{reads_back}
use Rattle.decimal.proofs.Writing.{held}

-- one value over another denominator
over : (x : Float) (s : Bool) (a b c d : ℕ) → 0 < b → HasValue x s a b → c * b ≡ a * d → HasValue x s c d
over nan s a b c d B v e = v
over (inf t) s a b c d B v e = v
over (fin t m k) s a b c d B v e =
    (v.0, eq_of_mul-eq-mul_right b B (m * up k * d) (c * down k) (omega (arith, ap (λ (z : ℕ). z * d) v.1, ap (λ (z : ℕ). z * down k) e)))

-- so a text that says z / 2 ^ bits says the number that is just that
says : (bits : ℕ) (z : ℤ) (x : Float) (text : List ℕ) → SaysOver bits z text → IsOver bits x z → Says x text
says bits z x text s v = record {
  said = s.said;
  read = s.read;
  value = over x s.said.minus (nat_abs z) (2 ^ bits) s.said.figures (10 ^ s.said.places) (pow_pos bits) (subst (λ (b : Bool). HasValue x b (nat_abs z) (2 ^ bits)) (sym s.minus) v) s.equal;
}

-- up to 2 ^ (bits + 63) the whole part fits
whole_fits : (bits n : ℕ) → n ≤ 2 ^ (bits + 63) → n / 2 ^ bits < 2 ^ 64
whole_fits bits n h =
    (div-lt_iff_lt-mul (pow_pos bits)).1 (lt_of_le_of_lt h (subst (λ (z : ℕ). 2 ^ (bits + 63) < z) (pow-add 2 64 bits) (pow-lt {i = bits + 63} {j = 64 + bits} (omega arith))))

-- and a leading one, with 53 places more
one_fits : (bits n a : ℕ) → n < 2 ^ (bits + 63) → a ≡ leading_one (size n) → a / 2 ^ (bits + 53) < 2 ^ 64
one_fits bits n a h e =
    whole_fits (bits + 53) a (le_of_lt (lt_of_lt_of_le (one_below n a (bits + 63) h e) (pow_mono {i = bits + 63} {j = bits + 53 + 63} (omega arith))))

below_500 : (bits n : ℕ) → bits ≤ 400 → n < 2 ^ (bits + 63) → n < 2 ^ 500
below_500 bits n B h = lt_of_lt_of_le h (pow_mono {i = bits + 63} {j = 500} (omega arith))

-- ---- what the code needs of an h that it holds as its bits
module _ (bits : ℕ) (h : ℤ) (B : bits ≤ 63) (H : nat_abs h < 2 ^ (bits + 63)) where
  below_126 : nat_abs h < 2 ^ 126
  below_126 = lt_of_lt_of_le H (pow_mono {i = bits + 63} {j = 126} (omega arith))

  held_is : held h ≡ h
  held_is = omega (arith, ints, below_126)

  pub float_fits : nat_abs (held h) < 2 ^ 126
  float_fits = subst (λ (z : ℤ). nat_abs z < 2 ^ 126) (sym held_is) below_126

  -- over p places, which are as many or more
  pub rounded_fits : (p : ℕ) (r : ℤ) → ((k : ℕ) → nat_abs (held h) < 2 ^ k → nat_abs r ≤ 2 ^ k) → bits ≤ p → p ≤ 125 → (p ≤ 125) × (nat_abs (held r) / 2 ^ p < 2 ^ 64)
  rounded_fits p r bound P Q =
      let small = bound (bits + 63) (subst (λ (z : ℤ). nat_abs z < 2 ^ (bits + 63)) (sym held_is) H) in
      let fits : nat_abs r ≤ 2 ^ 126 = le_trans small (pow_mono {i = bits + 63} {j = 126} (omega arith)) in
      let back : held r ≡ r = omega (arith, ints) in
      (Q, subst (λ (z : ℤ). nat_abs z / 2 ^ p < 2 ^ 64) (sym back) (whole_fits p (nat_abs r) (le_trans small (pow_mono {i = bits + 63} {j = p + 63} (omega arith)))))

  pub error_fits : (p n a : ℕ) → n ≡ nat_abs (held h) → a ≡ leading_one (size n) → bits ≤ p → p ≤ 125 → (p ≤ 125) × (a / 2 ^ p < 2 ^ 64)
  error_fits p n a N A P Q =
      let below = one_below n a (bits + 63) (subst (λ (m : ℕ). m < 2 ^ (bits + 63)) (sym (N ∙ ap nat_abs held_is)) H) A in
      (Q, whole_fits p a (le_of_lt (lt_of_lt_of_le below (pow_mono {i = bits + 63} {j = p + 63} (omega arith)))))

-- ---- what both texts are read as
module _ (bits : ℕ) (h : ℤ) (B : bits ≤ 400) (H : nat_abs h < 2 ^ (bits + 63)) where
  near_is : RoundedOver bits h (rounded h)
  near_is = rounded_holds bits h (rounded h) (omega arith) (below_500 bits (nat_abs h) B H) refl

  float_read : SaysOver bits (rounded h) (float_text bits h)
  float_read = reads_back bits (rounded h) (whole_fits bits (nat_abs (rounded h)) (near_is.bound (bits + 63) H))

  abbrev one : ℕ
  one = leading_one (size (nat_abs h))

  error_read : SaysOver (bits + 53) (pos one) (error_text bits h)
  error_read =
      reads_back (bits + 53) (pos one) (one_fits bits (nat_abs h) one H refl)

pub float_exact : FloatExact
float_exact bits h B H = says bits (rounded h) (nearest_over bits h) (float_text bits h) (float_read bits h B H) (near_is bits h B H).over

pub error_exact : ErrorExact
unfolding half_place
error_exact bits h B H = says (bits + 53) (pos (one bits h B H)) (half_place bits h) (error_text bits h) (error_read bits h B H) (half_place_value bits (size (nat_abs h)))

-- ---- how far off
below : (k : ℕ) → 0 < k → below_zero (neg_ℤ (pos k)) ≡ true
below zero K = absurd (omega arith)
below (suc k) K = refl

same_sign : (h : ℤ) → below_zero (rounded h) ≡ below_zero h
same_sign (pos n) = refl
same_sign (negsuc n) = below (leading (suc n)) (leading_pos (suc n) (omega arith))

in_parts : (h : ℤ) → h ≡ with_sign (below_zero h) (nat_abs h)
in_parts (pos n) = refl
in_parts (negsuc n) = refl

off_at : (bits : ℕ) (h : ℤ) (number error : List ℕ) → SaysOver bits (rounded h) number → SaysOver (bits + 53) (pos (leading_one (size (nat_abs h)))) error → OffBy bits h number error
off_at bits h number error s t =
    let m = s.minus ∙ same_sign h in
    let n = s.said.figures in
    let p = 10 ^ s.said.places in
    let q = 10 ^ t.said.places in
    let gap =
    (λ i. nat_abs ((with_sign (m i) n *ℤ pos (2 ^ bits)) -ℤ (in_parts h i *ℤ pos p))) ∙ gap_is (below_zero h) n (2 ^ bits) (nat_abs h) p in
    record {
      said = s.said;
      half = t.said;
      read = s.read;
      read_half = t.read;
      plus = t.minus;
      off =
          subst (λ (g : ℕ). g * q ≤ t.said.figures * (p * 2 ^ bits)) (sym gap)
          (near_enough n (2 ^ bits) p (nat_abs h) (leading (nat_abs h)) t.said.figures q (2 ^ 53) (leading_one (size (nat_abs h))) (pow_pos 53)
          (s.equal ∙ ap (λ (z : ℕ). z * p) (size_of h)) (ap (λ (z : ℕ). t.said.figures * z) (sym (pow-add 2 bits 53)) ∙ t.equal) (off_by (nat_abs h) (size (nat_abs h)) refl));
    }

pub written_near : WrittenNear
written_near bits h B H = off_at bits h (float_text bits h) (error_text bits h) (float_read bits h B H) (error_read bits h B H)

-- ---- zero
zero_part : (bits : ℕ) → part_text bits 0 ≡ codes "0"
zero_part bits =
    let w : 0 / 2 ^ bits ≡ 0 = zero-div (2 ^ bits) in
    let f : 0 % 2 ^ bits ≡ 0 = zero-mod (2 ^ bits) in
    (λ i. fraction_text bits (w i) (f i)) ∙ ap (λ (l : List ℕ). l ++ []) (decimal_digit 0 (lit< tt))

pub zero_is : Zero
unfolding leading size
zero_is bits = (zero_part bits, zero_part bits, zero_part (bits + 53))
