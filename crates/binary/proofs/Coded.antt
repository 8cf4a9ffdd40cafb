-- From the numbers that the code works out to those of specs/Nearest.antt.
use Rattle.std.proofs.Common.{◌≡◌, ℕ, zero, suc, ◌+◌, ◌-◌, ◌*◌, ◌/◌, ◌%◌, ◌^◌, ◌<◌, ◌≤◌, true, false, T, not, ℤ, pos, negsuc, ◌-ℤ◌, neg_ℤ, nat_abs, sym, refl, ap, ◌∙◌, subst, lt_of_lt_of_le, lt_of_le_of_lt, div-le_self, arith, lit≤, pow_pos, SFits, to_z, of_z}
use Prim.Native.Nat.{compare}
use lib.Bits.{bit_and}
use lib.Signed.{lt_z}
use lib.Ieee.{Float, fin, binary64, size, nearest, neg, div, nan_bits, of_int, of_bits}
use lib.Ieee.Digits.{size-le, size_reaches}
use mir.Syntax.{w128}
use Rattle.std.proofs.lemmas.Nat.{one_shl, and_mask, and_le_l}
use Rattle.std.proofs.lemmas.Float.{not_nan_f64_bits}
use Rattle.std.proofs.lemmas.Int.{ints, to_z-of_z}
use Rattle.binary.specs.Nearest.{nearest_over, leading, rounded, IsOver, RoundedOver, leading_one, half_place}
use Rattle.binary.specs.Promise.{Within}
use Rattle.binary.proofs.Leading.{at_most}
use Rattle.binary.proofs.Over.{quotient, half_quotient, minus_whole, power_is}
use Rattle.binary.proofs.Stands.{whole_stands, near_stands}

-- ---- the leading one
shifted : (k : ℕ) → k ≤ 128 → (k ≡ 0 → ⊥) → (1 * 2 ^ (k - 1)) % 2 ^ 128 ≡ leading_one k
shifted zero K e = absurd (e refl)
shifted (suc p) K e = one_shl (suc p - 1) 128 (omega arith) ∙ ap (λ (j : ℕ). 2 ^ j) (omega arith)

pub one_at : (n k : ℕ) → n < 2 ^ 128 → k ≡ size n → (k ≡ 0 → ⊥) → (1 * 2 ^ (k - 1)) % 2 ^ 128 ≡ leading_one (size n)
one_at n k N e z = shifted k (omega (arith, size-le n 128 N)) z ∙ ap leading_one e

-- ---- the leading digits of n, with d digits dropped
module _ (n d : ℕ) (N : n < 2 ^ 126) (D : d ≡ size n - 53) where
  pub drop_small : d < 128
  drop_small = omega (arith, size-le n 126 N)

  pub unit_is : (1 * 2 ^ d) % 2 ^ 128 ≡ 2 ^ d
  unit_is = one_shl d 128 drop_small

  pub unit_pos : 1 ≤ (1 * 2 ^ d) % 2 ^ 128
  unit_pos = omega (arith, unit_is, pow_pos d)

  pub parts_small : (n / 2 ^ d < 2 ^ 127) × (bit_and n ((1 * 2 ^ d) % 2 ^ 128 - 1) < 2 ^ 127)
  parts_small = (omega (arith, div-le_self n (2 ^ d)), omega (arith, and_le_l n ((1 * 2 ^ d) % 2 ^ 128 - 1)))

  pub multiple_is : (r : ℕ) → r ≡ nearest (n / 2 ^ d) (compare (bit_and n ((1 * 2 ^ d) % 2 ^ 128 - 1) * 2) ((1 * 2 ^ d) % 2 ^ 128)) → r * ((1 * 2 ^ d) % 2 ^ 128) ≡ leading n
  unfolding leading
  multiple_is r e =
      let u = 2 ^ d in
      let rest : bit_and n ((1 * u) % 2 ^ 128 - 1) ≡ n % u = ap (λ (z : ℕ). bit_and n (z - 1)) unit_is ∙ and_mask n d in
      ap (λ (z : ℕ). z * ((1 * u) % 2 ^ 128)) e
      ∙ (λ i. nearest (n / u) (compare (rest i * 2) (unit_is i)) * unit_is i)
      ∙ ap (λ (k : ℕ). nearest (n / 2 ^ k) (compare (n % 2 ^ k * 2) (2 ^ k)) * 2 ^ k) D

pub leading_at_most : (n k : ℕ) → n < 2 ^ k → leading n ≤ 2 ^ k
unfolding leading
leading_at_most n k h = at_most 53 n k h

-- ---- an integer h that the code holds as its bits, and its size n
rounded_below : (h : ℤ) → lt_z h (pos 0) ≡ true → rounded h ≡ neg_ℤ (pos (leading (nat_abs h)))
rounded_below (negsuc n) t = refl
rounded_below (pos n) t = absurd (omega (arith, ints))

rounded_else : (h : ℤ) → lt_z h (pos 0) ≡ false → rounded h ≡ pos (leading (nat_abs h))
rounded_else (pos n) t = refl
rounded_else (negsuc n) t = absurd (omega (arith, ints))

abbrev held : ℤ → ℤ
held h = to_z w128 (of_z w128 h)

module _ (h : ℤ) (n r : ℕ) (F : SFits w128 h) (H : nat_abs h < 2 ^ 126) (N : n ≡ nat_abs (held h)) (R : r ≡ leading n) where
  size_is : r ≡ leading (nat_abs h)
  size_is = R ∙ ap leading (N ∙ ap nat_abs (to_z-of_z w128 h F))

  size_small : r ≤ 2 ^ 126
  size_small = omega (arith, size_is, leading_at_most (nat_abs h) 126 H)

  pub size_fits : SFits w128 (pos r)
  size_fits = omega (arith, ints, size_small)

  pub minus_fits : SFits w128 (pos 0 -ℤ to_z w128 r)
  minus_fits = omega (arith, ints, size_small)

  pub below_is : lt_z (held h) (pos 0) ≡ true → to_z w128 (of_z w128 (pos 0 -ℤ to_z w128 r)) ≡ rounded h
  below_is t =
      let e : to_z w128 (of_z w128 (pos 0 -ℤ to_z w128 r)) ≡ neg_ℤ (pos r) = omega (arith, ints, size_small) in
      e ∙ ap (λ (k : ℕ). neg_ℤ (pos k)) size_is ∙ sym (rounded_below h (sym (ap (λ (z : ℤ). lt_z z (pos 0)) (to_z-of_z w128 h F)) ∙ t))

  pub else_is : lt_z (held h) (pos 0) ≡ false → to_z w128 r ≡ rounded h
  else_is t =
      let e : to_z w128 r ≡ pos r = omega (arith, ints, size_small) in
      e ∙ ap pos size_is ∙ sym (rounded_else h (sym (ap (λ (z : ℤ). lt_z z (pos 0)) (to_z-of_z w128 h F)) ∙ t))

-- ---- what is promised of the rounded number
pub size_of : (h : ℤ) → nat_abs (rounded h) ≡ leading (nat_abs h)
size_of (pos n) = refl
size_of (negsuc n) = omega (arith, ints)

rounded_small : (h z : ℤ) (k : ℕ) → nat_abs h < 2 ^ k → z ≡ rounded h → nat_abs z ≤ 2 ^ k
rounded_small h z k H e = subst (λ (m : ℕ). m ≤ 2 ^ k) (sym (ap nat_abs e ∙ size_of h)) (leading_at_most (nat_abs h) k H)

pub rounded_holds : (b : ℕ) (h r : ℤ) → b ≤ 500 → nat_abs h < 2 ^ 500 → r ≡ rounded h → RoundedOver b h r
rounded_holds b h r B H e = record {
  value = e;
  over = subst (λ (z : ℤ). IsOver b (nearest_over b h) z) (sym e) (whole_stands b h B H);
  bound = λ k K. rounded_small h r k K e;
}

-- ---- a float x, divided by the power of two that y is
pub nearest_at : (b : ℕ) (h : ℤ) (x y : Float) → b ≤ 500 → nat_abs h < 2 ^ 500 → x ≡ of_int binary64 h → y ≡ fin false 1 (pos b) → div binary64 x y ≡ nearest_over b h
nearest_at b h x y B H e p = (λ i. div binary64 (e i) (p i)) ∙ quotient b h (omega arith) (lt_of_lt_of_le H (lit≤ tt))

pub half_place_at : (b : ℕ) (h : ℤ) (n a : ℕ) (x y : Float) → b ≤ 500 → nat_abs h < 2 ^ 500 → n ≡ nat_abs h → a ≡ leading_one (size n) → x ≡ of_int binary64 (pos a) → y ≡ fin false 1 (pos (b + 53))
    → (div binary64 x y ≡ half_place b h) × Within (nearest_over b h) b h (div binary64 x y)
unfolding half_place
half_place_at b h n a x y B H N A e p =
    let one : x ≡ of_int binary64 (pos (leading_one (size (nat_abs h)))) = e ∙ ap (λ (k : ℕ). of_int binary64 (pos k)) (A ∙ ap (λ (k : ℕ). leading_one (size k)) N) in
    let is : div binary64 x y ≡ half_place b h = (λ i. div binary64 (one i) (p i)) ∙ half_quotient b (size (nat_abs h)) (omega arith) (omega (arith, size-le (nat_abs h) 500 H)) in
    (is, subst (λ (z : Float). Within (nearest_over b h) b h z) (sym is) (near_stands b h B H))

negated_of : (h : ℤ) → nat_abs h < 2 ^ 500 → lt_z h (pos 0) ≡ true → neg (of_int binary64 (pos (nat_abs h))) ≡ of_int binary64 h
negated_of (pos n) H t = absurd (omega (arith, ints))
negated_of (negsuc n) H t = minus_whole n (lt_of_lt_of_le H (lit≤ tt))

pub negated_at : (h : ℤ) (n : ℕ) (x : Float) → SFits w128 h → nat_abs h < 2 ^ 80 → n ≡ nat_abs (held h) → x ≡ of_int binary64 (pos n) → lt_z (held h) (pos 0) ≡ true → neg x ≡ of_int binary64 h
negated_at h n x F H N e t =
    let same = to_z-of_z w128 h F in
    ap neg (e ∙ ap (λ (k : ℕ). of_int binary64 (pos k)) (N ∙ ap nat_abs same)) ∙ negated_of h (lt_of_lt_of_le H (lit≤ tt)) (sym (ap (λ (z : ℤ). lt_z z (pos 0)) same) ∙ t)

pub one_below : (n a k : ℕ) → n < 2 ^ k → a ≡ leading_one (size n) → a < 2 ^ k
one_below n a k h A = subst (λ (z : ℕ). z < 2 ^ k) (sym A) (at (size n) refl)
  where
    at : (m : ℕ) → size n ≡ m → leading_one m < 2 ^ k
    at zero e = pow_pos k
    at (suc p) e = lt_of_le_of_lt (size_reaches n p (omega arith)) h

-- a power of two, from its bit pattern
abbrev power_bits : ℕ → ℕ
power_bits p = (p + 1023) * 4503599627370496 % 2 ^ 64

pub power_no_nan : (p : ℕ) → p ≤ 1023 → T (not (nan_bits binary64 (power_bits p)))
power_no_nan p P = not_nan_f64_bits (power_bits p) (omega arith)

pub power_at : (p : ℕ) → p ≤ 1023 → of_bits binary64 (power_bits p) ≡ fin false 1 (pos p)
power_at p P = ap (of_bits binary64) (omega arith) ∙ power_is p P
