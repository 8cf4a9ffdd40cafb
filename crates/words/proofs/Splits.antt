-- The first word of a line, and the words of what follows it. Assumes nothing.
use Rattle.std.proofs.Common.{◌≡◌, ℕ, suc, ◌<◌, Bool, true, false, not, List, [], ◌∷◌, length, take, drop, Option, sym, refl, ap, ◌∙◌, subst, one-add, add-one, arith, length-drop}
use mathlib.Core.Bool.{beq}
use Rattle.std.specs.List.{prefix_len, AllWithin, HoldsAt}
use Rattle.std.proofs.lemmas.List.{drop_all}
use Rattle.std.specs.Option.{MatchOption, unwrap_or}
use Rattle.std.proofs.lemmas.Iterator.{index_from_first}
use Rattle.std.proofs.lemmas.Bool.{cond-true, cond-false}
use Rattle.words.specs.Words.{blank, before_first, pieces, filled, words}

-- how many bytes in front are blank, or are not
abbrev pub lead : Bool → List ℕ → ℕ
lead b = prefix_len (λ x. beq (blank x) b)

lead_yes : (b : Bool) (x : ℕ) (xs : List ℕ) → blank x ≡ b → lead b (x ∷ xs) ≡ suc (lead b xs)
lead_yes b x xs h = cond-true _ _ _ (ap (λ (y : Bool). beq y b) h ∙ same b) ∙ one-add (lead b xs)
  where
    same : (b : Bool) → beq b b ≡ true
    same true = refl
    same false = refl

lead_no : (b : Bool) (x : ℕ) (xs : List ℕ) → blank x ≡ not b → lead b (x ∷ xs) ≡ 0
lead_no b x xs h = cond-false _ _ _ (ap (λ (y : Bool). beq y b) h ∙ other b)
  where
    other : (b : Bool) → beq (not b) b ≡ false
    other true = refl
    other false = refl

-- a blank in front of a line changes no word
blank_first : (x : ℕ) (xs : List ℕ) → blank x ≡ true → words (x ∷ xs) ≡ words xs
unfolding pieces filled
blank_first x xs h = ap filled (cond-true _ _ _ h)

-- so all blanks in front may be dropped
drop_blanks : (xs : List ℕ) → words xs ≡ words (drop (lead true xs) xs)
drop_blanks [] = refl
drop_blanks (x ∷ xs) = go (blank x) refl (drop_blanks xs)
  where
    go : (b : Bool) → blank x ≡ b → words xs ≡ words (drop (lead true xs) xs) → words (x ∷ xs) ≡ words (drop (lead true (x ∷ xs)) (x ∷ xs))
    go true e rest = blank_first x xs e ∙ rest ∙ ap (λ (k : ℕ). words (drop k (x ∷ xs))) (sym (lead_yes true x xs e))
    go false e rest = ap (λ (k : ℕ). words (drop k (x ∷ xs))) (sym (lead_no true x xs e))

-- and what is left is nothing, or begins with no blank
abbrev Begins : List ℕ → Type 0
Begins [] = Unit {0}
Begins (x ∷ xs) = blank x ≡ false

begins : (xs : List ℕ) → Begins (drop (lead true xs) xs)
begins [] = tt
begins (x ∷ xs) = go (blank x) refl (begins xs)
  where
    go : (b : Bool) → blank x ≡ b → Begins (drop (lead true xs) xs) → Begins (drop (lead true (x ∷ xs)) (x ∷ xs))
    go true e rest = subst (λ (k : ℕ). Begins (drop k (x ∷ xs))) (sym (lead_yes true x xs e)) rest
    go false e rest = subst (λ (k : ℕ). Begins (drop k (x ∷ xs))) (sym (lead_no true x xs e)) e

-- the first piece of a line is what stands before its first blank, and the words of the others are those of the rest
abbrev FirstPiece : List ℕ → Type 0
FirstPiece xs = (t : List (List ℕ)) × (pieces xs ≡ take (lead false xs) xs ∷ t) × (filled t ≡ words (drop (lead false xs) xs))

first_piece : (xs : List ℕ) → FirstPiece xs
unfolding pieces filled
first_piece [] = ([], refl, refl)
first_piece (x ∷ xs) = go (blank x) refl (first_piece xs)
  where
    go : (b : Bool) → blank x ≡ b → FirstPiece xs → FirstPiece (x ∷ xs)
    go true e rest = subst (λ (k : ℕ). (t : List (List ℕ)) × (pieces (x ∷ xs) ≡ take k (x ∷ xs) ∷ t) × (filled t ≡ words (drop k (x ∷ xs)))) (sym (lead_no false x xs e)) (pieces xs, cond-true _ _ _ e, sym (blank_first x xs e))
    go false e rest = subst (λ (k : ℕ). (t : List (List ℕ)) × (pieces (x ∷ xs) ≡ take k (x ∷ xs) ∷ t) × (filled t ≡ words (drop k (x ∷ xs)))) (sym (lead_yes false x xs e)) (rest.0, cond-false _ _ _ e ∙ ap (before_first x) rest.1, rest.2)

no_words : words [] ≡ []
unfolding pieces filled
no_words = refl

-- a word that has a byte is kept
pub kept : (w : List ℕ) (t : List (List ℕ)) → 0 < length w → filled (w ∷ t) ≡ w ∷ filled t
unfolding filled
kept [] t h = absurd (omega arith)
kept (b ∷ w) t h = refl

-- a line of blanks has no words
pub no_word : (line : List ℕ) → lead true line ≡ length line → words line ≡ []
no_word line h = drop_blanks line ∙ ap words (ap (λ (k : ℕ). drop k line) h ∙ drop_all (length line) line (omega arith)) ∙ no_words

-- the first word of any other, and what follows it
pub first_word : (line rest word after : List ℕ) → lead true line < length line → rest ≡ drop (lead true line) line → word ≡ take (lead false rest) rest → after ≡ drop (lead false rest) rest → words line ≡ word ∷ words after
first_word line rest word after h rest-is word-is after-is =
    same ∙ ap filled piece.1 ∙ ap (λ (w : List ℕ). filled (w ∷ piece.0)) (sym word-is) ∙ kept word piece.0 (some rest word (subst Begins (sym rest-is) (begins line)) (omega (arith, ap length rest-is, length-drop (lead true line) line)) word-is) ∙ ap (λ (l : List (List ℕ)). word ∷ l) (piece.2 ∙ ap words (sym after-is))
  where
    same : words line ≡ words rest
    same = drop_blanks line ∙ ap words (sym rest-is)

    piece : FirstPiece rest
    piece = first_piece rest

    some : (xs w : List ℕ) → Begins xs → 0 < length xs → w ≡ take (lead false xs) xs → 0 < length w
    some [] w b l e = absurd (omega arith)
    some (x ∷ xs) w b l e = omega (arith, ap length (e ∙ ap (λ (k : ℕ). take k (x ∷ xs)) (lead_yes false x xs b)))

-- `position` finds where a line's blanks in front end, or its first word
pub counted : (b : Bool) (xs : List ℕ) (r : Option ℕ) → MatchOption r (AllWithin (λ x. blank x ≡ b) xs 0 (length xs)) (λ i. (i < length xs) × HoldsAt (λ x. blank x ≡ not b) xs i × AllWithin (λ x. blank x ≡ b) xs 0 i) → lead b xs ≡ unwrap_or r (length xs)
counted b = index_from_first (lead b) (λ x. blank x ≡ not b) (λ x. blank x ≡ b) refl (lead_no b) (λ x xs h. lead_yes b x xs h ∙ sym (add-one (lead b xs)))

-- a word has a byte
abbrev first_of : List (List ℕ) → List ℕ
first_of [] = []
first_of (w ∷ ws) = w

filled_some : (ps ws : List (List ℕ)) (w : List ℕ) → filled ps ≡ w ∷ ws → 0 < length w
unfolding filled
filled_some [] ws w e = absurd (omega (arith, ap length e))
filled_some ([] ∷ ps) ws w e = filled_some ps ws w e
filled_some ((b ∷ v) ∷ ps) ws w e = omega (arith, ap (λ (l : List (List ℕ)). length (first_of l)) e)

pub word_some : (line w : List ℕ) (ws : List (List ℕ)) → words line ≡ w ∷ ws → 0 < length w
word_some line w ws e = filled_some (pieces line) ws w e
