-- What is written is read as it was. Assumes nothing.
use Rattle.std.proofs.Common.{◌≡◌, ℕ, suc, ◌^◌, ◌<◌, true, false, ◌∷◌, length, get_or, pos, negsuc, Some, decimal, sym, refl, ap, ◌∙◌, arith, lit<, rules}
use Rattle.std.specs.Str.{all_ascii_digits}
use Rattle.std.proofs.lemmas.Fmt.{digits_decimal, digits_value-decimal, length-decimal-le, decimal_nonempty}
use Rattle.std.proofs.lemmas.Str.Parse.{IsNumeralModel, numerals_by_fold, tells_all_ascii_digits, not_in_digits}
use Rattle.std.proofs.lemmas.Bool.{and_from, lt-ltb, cond-true, ne_eqb}
use Rattle.words.specs.Numbers.{read_on, figures_of, minus_first}
use Rattle.words.specs.Promise.{ReadBack}
use Rattle.words.proofs.Signs.{with_minus, without_minus}

pub own : IsNumeralModel (λ ds. all_ascii_digits ds ≡ true) (read_on 0)
own = numerals_by_fold _ tells_all_ascii_digits read_on (search rules)

pub figures_back : (n : ℕ) → n < 10 ^ 18 → Some n ≡ figures_of (decimal n)
unfolding figures_of
figures_back n h =
    let small : n < 2 ^ 64 = omega arith in
    ap Some (sym (digits_value-decimal own n small))
    ∙ sym (cond-true _ _ _ (and_from _ _ (lt-ltb 0 (length (decimal n)) (decimal_nonempty n small)) (and_from _ _ (lt-ltb (length (decimal n)) 19 (omega (arith, length-decimal-le 18 n (lit< tt) h small))) (digits_decimal own n small))))

plain : (n : ℕ) → n < 2 ^ 64 → minus_first (decimal n) ≡ false
plain n h = ne_eqb (get_or (decimal n) 0 0) 45 (λ e. not_in_digits own (decimal n) 45 (digits_decimal own n h) (λ i. omega (arith, i)) 0 (decimal_nonempty n h) e)

pub read_back : ReadBack
read_back (pos n) h = sym (without_minus (decimal n) (Some n) (plain n (omega arith)) (figures_back n h))
read_back (negsuc n) h = sym (with_minus (45 ∷ decimal (suc n)) (decimal (suc n)) (Some (suc n)) refl refl (figures_back (suc n) h))
