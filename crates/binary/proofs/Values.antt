-- Binary floats by their value, in either format: two that fit and have one value are one, a division by a power of two, and what `round` makes of a whole number over one.
use Rattle.std.proofs.Common.{◌≡◌, ℕ, ◌+◌, ◌-◌, ◌*◌, ◌/◌, ◌^◌, ◌<◌, ◌≤◌, Bool, true, false, cond, T, pos, sym, refl, ap, ◌∙◌, subst, inl, inr, true≢false, le_trans, le_of_eq, lt_of_lt_of_le, lt_of_le_of_lt, mul-le-mul_right, zero-lt-suc, mul_assoc, mul_comm, mul-pos, mul-one, mul-div_cancel, arith, pow_pos, pow_mono, pow-add}
use native.Mathlib.Nat.{eq_of_mul-eq-mul_right}
use lib.Pow.{pow-lt}
use lib.Ieee.{Float, Format, nan, inf, fin, prec, emax, low, unlike, up, down, size, round, sum, add, mul, div, fits, of_bits, to_bits, top, hid}
use lib.Ieee.Digits.{size-lt}
use lib.Ieee.Fits.{down_pos, round_is, round-fits, two, two-le_pos}
use lib.Ieee.Bits.{of_bits-to_bits}
use lib.Ieee.Exact.{HasValue, units_val, round_exact}
use lib.Ieee.Nearest.{closest, closest_same}
use lib.Ieee.Scale.{round_same, grid, overflow, grid_scale}
use Rattle.std.proofs.lemmas.Bool.{cases_lt}
use Rattle.binary.proofs.Leading.{to_digits, all_kept, at_most, short}

-- ---- one value, as fractions with different denominators
pub stretch : (x : Float) (s : Bool) (a c k : ℕ) → HasValue x s a c → HasValue x s (a * k) (c * k)
stretch nan s a c k v = v
stretch (inf t) s a c k v = v
stretch (fin t m e) s a c k v = (v.0, omega (arith, ap (λ (z : ℕ). z * k) v.1))

pub shrink : (x : Float) (s : Bool) (a c k : ℕ) → 0 < k → HasValue x s (a * k) (c * k) → HasValue x s a c
shrink nan s a c k K v = v
shrink (inf t) s a c k K v = v
shrink (fin t m e) s a c k K v = (v.0, eq_of_mul-eq-mul_right k K (m * up e * c) (a * down e) (omega (arith, v.1)))

-- ---- a number's bit pattern is made of its sign and of its size in units of the format's smallest number
pub pattern_is : (f : Format) (x : Float) (s : Bool) (n : ℕ) → HasValue x s n (2 ^ low f)
    → to_bits f x ≡ cond s (top f) 0 + (size n - prec f) * hid f + n / 2 ^ (size n - prec f)
unfolding to_bits
pattern_is f nan s n v = absurd v
pattern_is f (inf t) s n v = absurd v
pattern_is f (fin t m e) s n v =
    let same : m * up e * 2 ^ low f / down e ≡ n = ap (λ (z : ℕ). z / down e) v.1 ∙ mul-div_cancel n (down_pos e) in
    λ i. cond (v.0 i) (top f) 0 + (size (same i) - prec f) * hid f + same i / 2 ^ (size (same i) - prec f)

pub power_split : (f : Format) (b t : ℕ) → b + t ≡ low f → 2 ^ b * 2 ^ t ≡ 2 ^ low f
power_split f b t e = sym (pow-add 2 b t) ∙ ap (λ (k : ℕ). 2 ^ k) e

-- so two numbers of a format that have one value are one
pub one_number : (f : Format) (x y : Float) (s : Bool) (a b t : ℕ) → b + t ≡ low f → T (fits f x) → T (fits f y)
    → HasValue x s a (2 ^ b) → HasValue y s a (2 ^ b) → x ≡ y
one_number f x y s a b t e p q v w =
    let units : (z : Float) → HasValue z s a (2 ^ b) → HasValue z s (a * 2 ^ t) (2 ^ low f) = λ z u. subst (λ (c : ℕ). HasValue z s (a * 2 ^ t) c) (power_split f b t e) (stretch z s a (2 ^ b) (2 ^ t) u) in
    sym (of_bits-to_bits f x p) ∙ ap (of_bits f) (pattern_is f x s (a * 2 ^ t) (units x v) ∙ sym (pattern_is f y s (a * 2 ^ t) (units y w))) ∙ of_bits-to_bits f y q

-- ---- divided by a power of two
like_it : (s : Bool) → unlike s false ≡ s
like_it true = refl
like_it false = refl

pub divided : (f : Format) (x : Float) (s : Bool) (a b : ℕ) → HasValue x s a 1 → div f x (fin false 1 (pos b)) ≡ round f s a (2 ^ b)
unfolding div
divided f nan s a b v = absurd v
divided f (inf t) s a b v = absurd v
divided f (fin t m e) s a b v =
    ap (λ (z : Bool). round f z (m * up e * 1) (1 * 2 ^ b * down e)) (like_it t ∙ v.0)
    ∙ round_same f s (m * up e * 1) (1 * 2 ^ b * down e) a (2 ^ b) (mul-pos (mul-pos (zero-lt-suc 0) (pow_pos b)) (down_pos e)) (pow_pos b) (omega (arith, ap (λ (z : ℕ). z * 2 ^ b) v.1))

-- ---- two whole numbers added, and one times a power of two
pub added : (f : Format) (x y : Float) (a b : ℕ) → HasValue x false a 1 → HasValue y false b 1 → add f x y ≡ round f false (a + b) 1
unfolding add sum
added f nan y a b v w = absurd v
added f (inf s) y a b v w = absurd v
added f (fin s m e) nan a b v w = absurd w
added f (fin s m e) (inf t) a b v w = absurd w
added f (fin true m e) (fin t n d) a b v w = absurd (true≢false v.0)
added f (fin false m e) (fin true n d) a b v w = absurd (true≢false w.0)
added f (fin false m e) (fin false n d) a b v w =
    round_same f false (m * up e * down d + n * up d * down e) (down e * down d) (a + b) 1 (mul-pos (down_pos e) (down_pos d)) (zero-lt-suc 0)
    (omega (arith, ap (λ (z : ℕ). z * down d) v.1, ap (λ (z : ℕ). z * down e) w.1))

pub scaled : (f : Format) (x : Float) (a k : ℕ) → HasValue x false a 1 → mul f x (fin false 1 (pos k)) ≡ round f false (a * 2 ^ k) 1
unfolding mul
scaled f nan a k v = absurd v
scaled f (inf s) a k v = absurd v
scaled f (fin true m e) a k v = absurd (true≢false v.0)
scaled f (fin false m e) a k v =
    round_same f false (m * up e * (1 * 2 ^ k)) (down e * 1) (a * 2 ^ k) 1 (mul-pos (down_pos e) (zero-lt-suc 0)) (zero-lt-suc 0) (omega (arith, ap (λ (z : ℕ). z * 2 ^ k) v.1))

-- ---- what `round` makes of a whole number over 2 ^ b, where b is no more than the format's smallest number reaches
module _ (f : Format) (b t : ℕ) (reach : b + t ≡ low f) (s : Bool) where
  -- a number of few digits is exact
  pub exact_over : (a q j : ℕ) → q < 2 ^ prec f → a ≡ q * 2 ^ j → a * 2 ^ t < overflow f → HasValue (round f s a (2 ^ b)) s a (2 ^ b)
  exact_over a q j Q e o =
      let moved : a * 2 ^ t ≡ q * 2 ^ (j + t) = ap (λ (z : ℕ). z * 2 ^ t) e ∙ mul_assoc q (2 ^ j) (2 ^ t) ∙ ap (λ (z : ℕ). q * z) (sym (pow-add 2 j t)) in
      round_exact f s a (2 ^ b) q (j + t) (pow_pos b) Q (subst (λ (z : ℕ). z < overflow f) moved o)
      (ap (λ (z : ℕ). a * z) (sym (power_split f b t reach) ∙ mul_comm (2 ^ b) (2 ^ t)) ∙ sym (mul_assoc a (2 ^ t) (2 ^ b)) ∙ ap (λ (z : ℕ). z * 2 ^ b) moved)

  -- n over 2 ^ low, in units of the format's smallest number, is n to the format's digits
  grid_is : (n : ℕ) → grid f n (2 ^ low f) ≡ to_digits (prec f) n
  grid_is n =
      let l = 2 ^ low f in
      let d = size n - prec f in
      ap (λ (z : ℕ). closest (n * l) (l * 2 ^ (size z - prec f)) * 2 ^ (size z - prec f)) (mul-div_cancel n (pow_pos (low f)))
      ∙ ap (λ (z : ℕ). z * 2 ^ d) (closest_same (n * l) (l * 2 ^ d) n (2 ^ d) (mul-pos (pow_pos (low f)) (pow_pos d)) (pow_pos d) (mul_assoc n l (2 ^ d)))

  -- one of many is scaled by 2 ^ t to be over 2 ^ low, and rounded there
  many_over : (n : ℕ) → prec f ≤ size n → to_digits (prec f) n * 2 ^ t < overflow f → HasValue (round f s n (2 ^ b)) s (to_digits (prec f) n) (2 ^ b)
  many_over n P o =
      let l = 2 ^ low f in
      let w = to_digits (prec f) n in
      let whole : size (n * l / l) ≡ size n = ap size (mul-div_cancel n (pow_pos (low f))) in
      let g : grid f (n * 2 ^ t) l ≡ w * 2 ^ t = grid_scale f n l t (pow_pos (low f)) (omega arith) ∙ ap (λ (z : ℕ). z * 2 ^ t) (grid_is n) in
      let alike : round f s n (2 ^ b) ≡ round f s (n * 2 ^ t) l =
      round_same f s n (2 ^ b) (n * 2 ^ t) l (pow_pos b) (pow_pos (low f)) (ap (λ (z : ℕ). n * z) (sym (power_split f b t reach) ∙ mul_comm (2 ^ b) (2 ^ t)) ∙ sym (mul_assoc n (2 ^ t) (2 ^ b))) in
      let v : HasValue (round f s (n * 2 ^ t) l) s (grid f (n * 2 ^ t) l) l =
      subst (λ (z : Float). HasValue z s (grid f (n * 2 ^ t) l) l) (sym (round_is f s (n * 2 ^ t) l)) (units_val f s _ _ (subst (λ (z : ℕ). z < overflow f) (sym g) o)) in
      let u : HasValue (round f s n (2 ^ b)) s (w * 2 ^ t) l = subst (λ (z : Float). HasValue z s (w * 2 ^ t) l) (sym alike) (subst (λ (z : ℕ). HasValue (round f s (n * 2 ^ t) l) s z l) g v) in
      shrink (round f s n (2 ^ b)) s w (2 ^ b) (2 ^ t) (pow_pos t) (subst (λ (z : ℕ). HasValue (round f s n (2 ^ b)) s (w * 2 ^ t) z) (sym (power_split f b t reach)) u)

  pub below_overflow : (a : ℕ) → a ≤ 2 ^ emax f → a * 2 ^ t < overflow f
  below_overflow a h = lt_of_le_of_lt (le_trans (mul-le-mul_right (2 ^ t) h) (le_of_eq (sym (pow-add 2 (emax f) t)))) (pow-lt {i = emax f + t} (omega arith))

  -- so n / 2 ^ b is rounded to n's leading digits over 2 ^ b
  pub rounded_over : (n : ℕ) → n < 2 ^ emax f → HasValue (round f s n (2 ^ b)) s (to_digits (prec f) n) (2 ^ b)
  rounded_over n h = elim (cases_lt (size n) (prec f)) [
    | inl l ↦
        let e : to_digits (prec f) n ≡ n = all_kept (prec f) n (omega arith) in
        subst (λ (z : ℕ). HasValue (round f s n (2 ^ b)) s z (2 ^ b)) (sym e)
        (exact_over n n 0 (lt_of_lt_of_le (size-lt n) (pow_mono {i = size n} {j = prec f} (omega arith))) (sym (mul-one n)) (below_overflow n (omega arith)))
    | inr l ↦ many_over n l (below_overflow (to_digits (prec f) n) (at_most (prec f) n (emax f) h))
  ]

  -- and these digits over 2 ^ b are rounded to themselves
  pub digits_over : (n : ℕ) → n < 2 ^ emax f → HasValue (round f s (to_digits (prec f) n) (2 ^ b)) s (to_digits (prec f) n) (2 ^ b)
  digits_over n h =
      let k = short (prec f) n (two-le_pos (prec f) (two f)) in
      exact_over (to_digits (prec f) n) k.0 k.1 k.2 k.3 (below_overflow (to_digits (prec f) n) (at_most (prec f) n (emax f) h))

  -- rounded to a whole number of the format first, and then divided by 2 ^ b, n is rounded once
  pub divided_once : (n : ℕ) → n < 2 ^ emax f → HasValue (round f s n 1) s (to_digits (prec f) n) 1 → div f (round f s n 1) (fin false 1 (pos b)) ≡ round f s n (2 ^ b)
  divided_once n h v =
      let w = to_digits (prec f) n in
      divided f (round f s n 1) s w b v
      ∙ one_number f (round f s w (2 ^ b)) (round f s n (2 ^ b)) s w b t reach (round-fits f s w (2 ^ b)) (round-fits f s n (2 ^ b)) (digits_over n h) (rounded_over n h)
