-- Figures, read one after the other. Assumes nothing.
use Rattle.std.proofs.Common.{◌≡◌, ℕ, ◌+◌, ◌-◌, ◌*◌, ◌^◌, ◌<◌, ◌≤◌, Bool, true, false, ◌&&◌, ltb, leb, List, ◌∷◌, length, get_or, drop, Some, None, sym, refl, ap, ◌∙◌, add-one, arith, lit<, drop-cons}
use native.Mathlib.Nat.{pow-succ', pow-le-pow_right}
use Rattle.std.specs.Char.{is_ascii_digit}
use Rattle.std.specs.Str.{all_ascii_digits}
use Rattle.std.proofs.lemmas.List.{drop_all}
use Rattle.std.proofs.lemmas.Bool.{and_parts, leb-true, and_from, and_left, and_right, lt-ltb, le-ltb, cond-true, cond-false}
use Rattle.words.specs.Numbers.{read_on, figures_of}

-- i figures of the word were read, and write n
pub record Reading (word : List ℕ) (i n : ℕ) : Type 0 where
  pub value : read_on 0 word ≡ read_on n (drop i word)
  pub digits : all_ascii_digits word ≡ all_ascii_digits (drop i word)
  pub small : n < 10 ^ i

pub reading_start : (word : List ℕ) → Reading word 0 0
reading_start word = record { value = refl; digits = refl; small = lit< tt }

-- what is left begins with the next byte
next : (word : List ℕ) (i : ℕ) → i < length word → drop i word ≡ get_or word i 0 ∷ drop (i + 1) word
next word i h = drop-cons word i 0 h ∙ ap (λ (k : ℕ). get_or word i 0 ∷ drop k word) (sym (add-one i))

pub reading_more : (word : List ℕ) (i n : ℕ) → Reading word i n → i < length word → is_ascii_digit (get_or word i 0) ≡ true → get_or word i 0 < 58 → Reading word (i + 1) (10 * n + (get_or word i 0 - 48))
reading_more word i n r h d le =
    record {
      value = r.value ∙ ap (read_on n) (next word i h);
      digits = r.digits ∙ ap all_ascii_digits (next word i h) ∙ ap (λ (b : Bool). b && all_ascii_digits (drop (i + 1) word)) d;
      small = rw (add-one i, pow-succ' 10 i) (omega (arith, r.small));
    }

pub reading_stops : (word : List ℕ) (i n : ℕ) → Reading word i n → i < length word → is_ascii_digit (get_or word i 0) ≡ false → figures_of word ≡ None
unfolding figures_of
reading_stops word i n r h d =
    cond-false _ _ _ (and_right (ltb 0 (length word)) _ (and_right (ltb (length word) 19) _ (r.digits ∙ ap all_ascii_digits (next word i h) ∙ ap (λ (b : Bool). b && all_ascii_digits (drop (i + 1) word)) d)))

pub reading_ends : (word : List ℕ) (i n : ℕ) → Reading word i n → length word ≤ i → 0 < length word → length word < 19 → figures_of word ≡ Some n
unfolding figures_of
reading_ends word i n r h some few =
    cond-true _ _ _ (and_from _ _ (lt-ltb 0 (length word) some) (and_from _ _ (lt-ltb (length word) 19 few) (r.digits ∙ ap all_ascii_digits (drop_all i word h))))
    ∙ ap Some (r.value ∙ ap (read_on n) (drop_all i word h))

pub too_short : (word : List ℕ) → length word ≡ 0 → figures_of word ≡ None
unfolding figures_of
too_short word h = cond-false _ _ _ (and_left _ _ (le-ltb 0 (length word) (omega arith)))

pub too_long : (word : List ℕ) → 18 < length word → figures_of word ≡ None
unfolding figures_of
too_long word h = cond-false _ _ _ (and_right (ltb 0 (length word)) _ (and_left _ _ (le-ltb (length word) 19 (omega arith))))

-- what is read fits by far
pub reading_fits : (word : List ℕ) (i n : ℕ) → Reading word i n → i ≤ 17 → 10 * n + 9 < 2 ^ 64
reading_fits word i n r h = omega (arith, r.small, pow-le-pow_right {n = 10} (lit< tt) h)

pub reading_small : (word : List ℕ) (i n : ℕ) → Reading word i n → i ≤ 18 → n < 10 ^ 18
reading_small word i n r h = omega (arith, r.small, pow-le-pow_right {n = 10} (lit< tt) h)

pub digit_le : (b : ℕ) → is_ascii_digit b ≡ true → b < 58
digit_le b h = omega (arith, leb-true b 57 (and_parts (leb 48 b) (leb b 57) h).1)
