-- Words written with a blank between them are read as they were. Assumes nothing.
use Rattle.std.proofs.Common.{◌≡◌, ℕ, suc, ◌^◌, ◌<◌, Bool, true, false, not, ◌&&◌, eqb, leb, List, [], ◌∷◌, ◌++◌, length, ℤ, pos, negsuc, nat_abs, decimal, refl, ap, ◌∙◌, arith}
use Rattle.std.specs.Char.{is_ascii_digit}
use Rattle.std.specs.Fmt.{signed_decimal}
use Rattle.std.specs.Str.{all_ascii_digits}
use Rattle.std.proofs.lemmas.Fmt.{digits_decimal, decimal_nonempty}
use Rattle.std.proofs.lemmas.Bool.{and_parts, cond-false, leb-true, ne_eqb, not-true, or_from}
use Rattle.words.specs.Words.{blank, before_first, pieces, filled, words}
use Rattle.words.proofs.Backs.{own}
use Rattle.words.proofs.Splits.{kept}

-- no blank in it
abbrev pub Solid : List ℕ → Type 0
Solid [] = Unit {0}
Solid (x ∷ xs) = (blank x ≡ false) × Solid xs

-- of a word that is written out, by a test
abbrev pub solid : List ℕ → Bool
solid [] = true
solid (x ∷ xs) = not (blank x) && solid xs

pub solid_by : (w : List ℕ) → solid w ≡ true → Solid w
solid_by [] h = tt
solid_by (x ∷ xs) h = let p = and_parts (not (blank x)) (solid xs) h in (not-true (blank x) p.0, solid_by xs p.1)

pieces_last : (w : List ℕ) → Solid w → pieces w ≡ w ∷ []
unfolding pieces
pieces_last [] s = refl
pieces_last (x ∷ w) s = cond-false _ _ _ s.0 ∙ ap (before_first x) (pieces_last w s.1)

pieces_front : (w rest : List ℕ) → Solid w → pieces (w ++ (32 ∷ rest)) ≡ w ∷ pieces rest
unfolding pieces
pieces_front [] rest s = refl
pieces_front (x ∷ w) rest s = cond-false _ _ _ s.0 ∙ ap (before_first x) (pieces_front w rest s.1)

filled_none : filled [] ≡ []
unfolding filled
filled_none = refl

-- a word has no blank in it, and is not empty
abbrev pub Word : List ℕ → Type 0
Word w = Solid w × (0 < length w)

pub words_last : (w : List ℕ) → Word w → words w ≡ w ∷ []
words_last w p = ap filled (pieces_last w p.0) ∙ kept w [] p.1 ∙ ap (λ (l : List (List ℕ)). w ∷ l) filled_none

pub words_front : (w rest : List ℕ) (ws : List (List ℕ)) → Word w → words rest ≡ ws → words (w ++ (32 ∷ rest)) ≡ w ∷ ws
words_front w rest ws p e = ap filled (pieces_front w rest p.0) ∙ kept w (pieces rest) p.1 ∙ ap (λ (l : List (List ℕ)). w ∷ l) e

-- a number, as it is written, is one word
pub digit_solid : (b : ℕ) → is_ascii_digit b ≡ true → blank b ≡ false
digit_solid b h =
    let p = leb-true 48 b (and_parts (leb 48 b) (leb b 57) h).0 in
    or_from (eqb b 32) (eqb b 9) (ne_eqb b 32 (λ e. omega arith)) (ne_eqb b 9 (λ e. omega arith))

digits_solid : (ds : List ℕ) → all_ascii_digits ds ≡ true → Solid ds
digits_solid [] h = tt
digits_solid (d ∷ ds) h =
    let p = and_parts (is_ascii_digit d) (all_ascii_digits ds) h in
    (digit_solid d p.0, digits_solid ds p.1)

pub decimal_word : (n : ℕ) → n < 2 ^ 64 → Word (decimal n)
decimal_word n h = (digits_solid (decimal n) (digits_decimal own n h), decimal_nonempty n h)

pub signed_word : (z : ℤ) → nat_abs z < 2 ^ 64 → Word (signed_decimal z)
signed_word (pos n) h = decimal_word n h
signed_word (negsuc n) h = let p = decimal_word (suc n) h in ((refl, p.0), omega (arith, p.1))

-- one of at most 18 figures: alone, and in front of others
short_word : (z : ℤ) → nat_abs z < 10 ^ 18 → Word (signed_decimal z)
short_word z h = signed_word z (omega arith)

pub number_last : (z : ℤ) → nat_abs z < 10 ^ 18 → words (signed_decimal z) ≡ signed_decimal z ∷ []
number_last z h = words_last (signed_decimal z) (short_word z h)

pub number_front : (z : ℤ) (rest : List ℕ) (ws : List (List ℕ)) → nat_abs z < 10 ^ 18 → words rest ≡ ws → words (signed_decimal z ++ (32 ∷ rest)) ≡ signed_decimal z ∷ ws
number_front z rest ws h e = words_front (signed_decimal z) rest ws (short_word z h) e

-- a word that is written out: alone, and in front of others
pub key_last : (w : List ℕ) → solid w ≡ true → 0 < length w → words w ≡ w ∷ []
key_last w s h = words_last w (solid_by w s, h)

pub key_front : (w rest : List ℕ) (ws : List (List ℕ)) → solid w ≡ true → 0 < length w → words rest ≡ ws → words (w ++ (32 ∷ rest)) ≡ w ∷ ws
key_front w rest ws s h e = words_front w rest ws (solid_by w s, h) e
