-- A number's sign. Assumes nothing.
use Rattle.std.proofs.Common.{◌≡◌, ℕ, ◌^◌, ◌<◌, true, false, eqb, List, [], ◌∷◌, take, drop, codes, pos, ◌-ℤ◌, neg_ℤ, nat_abs, Option, sym, refl, ap, ◌∙◌, arith, w64, to_z, of_z}
use Rattle.std.specs.Option.{option_map}
use Rattle.std.specs.Str.{bytes_eq}
use Rattle.std.proofs.Math.Bool.{and-true}
use Rattle.std.proofs.lemmas.Int.{ints}
use Rattle.std.proofs.lemmas.Bool.{cond-true, cond-false}
use Rattle.words.specs.Numbers.{figures_of, minus_first, number_of}

pub with_minus : (bs ds : List ℕ) (o : Option ℕ) → minus_first bs ≡ true → ds ≡ drop 1 bs → o ≡ figures_of ds → option_map (λ n. neg_ℤ (pos n)) o ≡ number_of bs
unfolding number_of
with_minus bs ds o h d e = ap (option_map (λ n. neg_ℤ (pos n))) (e ∙ ap figures_of d) ∙ sym (cond-true _ _ _ h)

pub without_minus : (bs : List ℕ) (o : Option ℕ) → minus_first bs ≡ false → o ≡ figures_of bs → option_map pos o ≡ number_of bs
unfolding number_of
without_minus bs o h e = ap (option_map pos) e ∙ sym (cond-false _ _ _ h)

-- as the code has them
pub negated : (n : ℕ) → n < 10 ^ 18 → (to_z w64 (of_z w64 (pos 0 -ℤ to_z w64 n)) ≡ neg_ℤ (pos n)) × (nat_abs (neg_ℤ (pos n)) < 10 ^ 18)
negated n h = omega (arith, ints)

pub kept : (n : ℕ) → n < 10 ^ 18 → to_z w64 n ≡ pos n
kept n h = omega (arith, ints)

-- whether a minus can be stripped
pub stripped : (bs : List ℕ) → bytes_eq (take 1 bs) (codes "-") ≡ minus_first bs
stripped [] = refl
stripped (b ∷ bs) = and-true (eqb b 45)
