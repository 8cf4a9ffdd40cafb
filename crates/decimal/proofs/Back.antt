-- What is written is read as it was. Assumes nothing.
use Rattle.std.proofs.Common.{◌≡◌, ℕ, suc, ◌+◌, ◌-◌, ◌*◌, ◌/◌, ◌%◌, ◌^◌, ◌<◌, Bool, true, false, cond, eqb, List, [], ◌∷◌, ◌++◌, length, nat_abs, Some, decimal, sym, refl, ap, ◌∙◌, inl, inr, mod-lt, div-add-mod', arith, pow_pos, rules}
use Rattle.std.specs.Char.{is_ascii_digit}
use Rattle.std.specs.Fmt.{sign_text}
use Rattle.std.specs.Str.{all_ascii_digits}
use Rattle.std.proofs.lemmas.Fmt.{decimal_nonempty, digits_decimal, digits_value-decimal}
use Rattle.std.proofs.lemmas.Str.Parse.{IsNumeralModel, numerals_by_fold, tells_all_ascii_digits}
use Rattle.std.proofs.lemmas.Bool.{and_parts, cases_eq, cond-true, cond-false, eq-eqb, ne_eqb}
use Rattle.binary.specs.Nearest.{below_zero}
use Rattle.decimal.specs.Figures.{figures, part_text}
use Rattle.decimal.specs.Promise.{ReadsBack}
use Rattle.decimal.specs.Reading.{Said, before, behind, number_in, point, read_on, unsigned}
use Rattle.decimal.proofs.Exact.{all_digits, exact_behind, some_figures}
use Rattle.decimal.proofs.Writing.{no_figures}

own : IsNumeralModel (λ ds. all_ascii_digits ds ≡ true) (read_on 0)
own = numerals_by_fold _ tells_all_ascii_digits read_on (search rules)

abbrev said : Bool → ℕ → ℕ → Said
said m n p = record { minus = m; figures = n; places = p }

-- figures, read one after the other
behind_figures : (m : Bool) (n p : ℕ) (ds : List ℕ) → all_ascii_digits ds ≡ true → behind m n p ds ≡ Some (said m (read_on n ds) (p + length ds))
unfolding behind
behind_figures m n p [] d = ap (λ (q : ℕ). Some (said m n q)) (omega arith)
behind_figures m n p (c ∷ cs) d =
    let b = and_parts (is_ascii_digit c) (all_ascii_digits cs) d in
    cond-true _ _ _ b.0 ∙ behind_figures m (10 * n + (c - 48)) (suc p) cs b.1 ∙ ap (λ (q : ℕ). Some (said m (read_on (10 * n + (c - 48)) cs) q)) (omega arith)

before_figures : (m : Bool) (n : ℕ) (ds rest : List ℕ) → all_ascii_digits ds ≡ true → before m n (ds ++ rest) ≡ before m (read_on n ds) rest
unfolding before
before_figures m n [] rest d = refl
before_figures m n (c ∷ cs) rest d =
    let b = and_parts (is_ascii_digit c) (all_ascii_digits cs) d in
    cond-true _ _ _ b.0 ∙ before_figures m (10 * n + (c - 48)) cs rest b.1

no_point : (m : Bool) (n : ℕ) → before m n [] ≡ Some (said m n 0)
unfolding before
no_point m n = refl

point_figures : (m : Bool) (n : ℕ) (ds : List ℕ) → 0 < length ds → all_ascii_digits ds ≡ true → before m n (46 ∷ ds) ≡ Some (said m (read_on n ds) (length ds))
unfolding before point
point_figures m n [] some d = absurd (omega arith)
point_figures m n (c ∷ cs) some d = behind_figures m n 0 (c ∷ cs) d ∙ ap (λ (q : ℕ). Some (said m (read_on n (c ∷ cs)) q)) (omega arith)

-- a number that begins with figures
unsigned_figures : (m : Bool) (ds rest : List ℕ) → 0 < length ds → all_ascii_digits ds ≡ true → unsigned m (ds ++ rest) ≡ before m (read_on 0 ds) rest
unfolding unsigned
unsigned_figures m [] rest some d = absurd (omega arith)
unsigned_figures m (c ∷ cs) rest some d =
    cond-true _ _ _ (and_parts (is_ascii_digit c) (all_ascii_digits cs) d).0 ∙ before_figures m 0 (c ∷ cs) rest d

plain : (ds rest : List ℕ) → 0 < length ds → all_ascii_digits ds ≡ true → number_in (ds ++ rest) ≡ unsigned false (ds ++ rest)
unfolding number_in
plain [] rest some d = absurd (omega arith)
plain (c ∷ cs) rest some d = cond-false _ _ _ (ne_eqb c 45 (λ e. omega (arith, (tells_all_ascii_digits.parts c cs d).0)))

minus_first : (bs : List ℕ) → number_in (45 ∷ bs) ≡ unsigned true bs
unfolding number_in
minus_first bs = refl

-- ---- n / 2 ^ k
module _ (k n : ℕ) (N : n / 2 ^ k < 2 ^ 64) where
  abbrev whole : ℕ
  whole = n / 2 ^ k

  abbrev part : ℕ
  part = n % 2 ^ k

  abbrev after : List ℕ
  after = cond (eqb part 0) [] (46 ∷ figures k part)

  small : part < 2 ^ k
  small = mod-lt n (pow_pos k)

  abbrev top : ℕ
  top = read_on whole (figures k part)

  abbrev places : ℕ
  places = length (figures k part)

  behind_whole : (m : Bool) → before m whole after ≡ Some (said m top places)
  behind_whole m = elim (cases_eq part 0) [
    | inl z ↦
        ap (before m whole) (cond-true _ _ _ (eq-eqb part 0 z)) ∙ no_point m whole ∙ ap (λ (ds : List ℕ). Some (said m (read_on whole ds) (length ds))) (sym (no_figures k part z))
    | inr f ↦
        ap (before m whole) (cond-false _ _ _ (ne_eqb part 0 f)) ∙ point_figures m whole (figures k part) (some_figures k part small (omega arith)) (all_digits k part small)
  ]

  read_whole : (m : Bool) → unsigned m (part_text k n) ≡ Some (said m top places)
  read_whole m =
      unsigned_figures m (decimal whole) after (decimal_nonempty whole N) (digits_decimal own whole N)
      ∙ ap (λ (w : ℕ). before m w after) (digits_value-decimal own whole N)
      ∙ behind_whole m

  pub read_part : (m : Bool) → number_in (sign_text m ++ part_text k n) ≡ Some (said m top places)
  read_part true = minus_first (part_text k n) ∙ read_whole true
  read_part false = plain (decimal whole) after (decimal_nonempty whole N) (digits_decimal own whole N) ∙ read_whole false

  pub worth : top * 2 ^ k ≡ n * 10 ^ places
  worth = exact_behind k part small whole ∙ ap (λ (z : ℕ). z * 10 ^ places) (div-add-mod' n (2 ^ k))

pub reads_back : ReadsBack
reads_back bits z h = record {
  said = said (below_zero z) (top bits (nat_abs z) h) (places bits (nat_abs z) h);
  read = read_part bits (nat_abs z) h (below_zero z);
  minus = refl;
  equal = worth bits (nat_abs z) h;
}
