-- Answers and refusals, as they are written, are read as they were. Assumes nothing.
use Rattle.std.proofs.Common.{◌≡◌, ℕ, ◌-◌, ◌^◌, ◌<◌, Bool, true, false, cond, List, [], ◌∷◌, ◌++◌, length, take, drop, ℤ, pos, nat_abs, Some, None, codes, Decides, Option, sym, refl, ap, ◌∙◌, ap₂, append_assoc, arith, lit<, length-append}
use lib.Seq.{take-append_seam, drop-append_seam}
use Rattle.std.specs.Fmt.{signed_decimal}
use Rattle.std.specs.Str.{bytes_eq}
use Rattle.std.proofs.lemmas.Slice.Eq.{bytes_eq-Decides}
use Rattle.std.proofs.lemmas.Option.{none-some}
use Rattle.std.proofs.lemmas.Bool.{cond-false}
use Rattle.height.specs.declared.refusal.Refusal.{Refusal}
use Rattle.height.specs.declared.refusal.Refusal.TheVariants.{File, Line, Tick, Asked, Text}
use Rattle.height.specs.Refusals.{refusal_number, refusal_place}
use Rattle.height.specs.Texts.{reason_text}
use Rattle.replies.specs.Said.{Answered, as_crossing, as_number, as_refusal, as_span, numbers, one_word, place_of, refused, refusal_line, said_bytes, said_of}
use Rattle.replies.specs.Promise.{AllShort, AnswersBack}
use Rattle.replies.specs.declared.answer.Said.{Said}
use Rattle.replies.specs.declared.answer.Said.TheVariants.{Nothing, Number, Rise, Set, Span, Hidden, Refused}
use Rattle.replies.proofs.Lines.{behind_colon}
use Rattle.words.specs.Numbers.{figures_of, number_of}
use Rattle.words.specs.Words.{blank, before_first, pieces, filled, words}
use Rattle.words.proofs.Backs.{read_back}
use Rattle.words.proofs.Solid.{Solid, solid_by, key_front, key_last, number_front, number_last, signed_word, words_front}

-- a number is no word that is not one
no_key : (z : ℤ) (k : List ℕ) → nat_abs z < 10 ^ 18 → number_of k ≡ None → bytes_eq (signed_decimal z) k ≡ false
no_key z k h n = go (bytes_eq (signed_decimal z) k) (bytes_eq-Decides (signed_decimal z) k)
  where
    go : (b : Bool) → Decides b (signed_decimal z ≡ k) → b ≡ false
    go true d = absurd (none-some z (sym n ∙ ap number_of (sym (d.0 refl)) ∙ read_back z h))
    go false d = refl

no_numbers : (number_of (codes "none") ≡ None) × (number_of (codes "hidden") ≡ None)
unfolding number_of figures_of
no_numbers = (refl, refl)

number_back : (z : ℤ) → nat_abs z < 10 ^ 18 → one_word (signed_decimal z) ≡ Some (Number z)
number_back z h =
    cond-false _ _ _ (no_key z (codes "none") h no_numbers.0) ∙ cond-false _ _ _ (no_key z (codes "hidden") h no_numbers.1) ∙ ap as_number (read_back z h)

answer_back : (s : Said) → Answered s → AllShort (numbers s) → said_of (words (said_bytes s)) ≡ Some s
answer_back Nothing a h = ap said_of (key_last (codes "none") refl (lit< tt))
answer_back (Number z) a h = ap said_of (number_last z h.0) ∙ number_back z h.0
answer_back (Rise z) a h = ap said_of (key_front (codes "rise") (signed_decimal z) (signed_decimal z ∷ []) refl (lit< tt) (number_last z h.0)) ∙ ap (as_crossing (codes "rise")) (read_back z h.0)
answer_back (Set z) a h = ap said_of (key_front (codes "set") (signed_decimal z) (signed_decimal z ∷ []) refl (lit< tt) (number_last z h.0)) ∙ ap (as_crossing (codes "set")) (read_back z h.0)
answer_back (Span a b c d) t h =
    let A = h.0 in
    let B = h.1.0 in
    let C = h.1.1.0 in
    let D = h.1.1.1.0 in
    ap said_of (number_front a _ _ A (number_front b _ _ B (number_front c _ _ C (number_last d D))))
    ∙ (λ i. as_span (read_back a A i) (read_back b B i) (read_back c C i) (read_back d D i))
answer_back Hidden a h = ap said_of (key_last (codes "hidden") refl (lit< tt))
answer_back (Refused n z) a h = absurd a

-- a place is read without its colon
place_back : (w : List ℕ) → place_of (w ++ codes ":") ≡ number_of w
place_back w = ap at len ∙ ap₂ (λ (f l : List ℕ). cond (bytes_eq l (codes ":")) (number_of f) None) (take-append_seam w (codes ":")) (drop-append_seam w (codes ":"))
  where
    at : ℕ → Option ℤ
    at k = cond (bytes_eq (drop k (w ++ codes ":")) (codes ":")) (number_of (take k (w ++ codes ":"))) None

    len : length (w ++ codes ":") - 1 ≡ length w
    len = omega (arith, length-append w (codes ":"))

-- texts without blanks, one behind the other
solid_append : (v w : List ℕ) → Solid v → Solid w → Solid (v ++ w)
solid_append [] w s t = t
solid_append (x ∷ v) w s t = (s.0, solid_append v w s.1 t)

-- a refusal, and a reason of one word or more
refused_back : (n z : ℤ) (reason u : List ℕ) (ws : List (List ℕ)) → nat_abs n < 10 ^ 18 → nat_abs z < 10 ^ 18 → words reason ≡ u ∷ ws → said_of (words (said_bytes (Refused n z) ++ (codes " " ++ reason))) ≡ Some (Refused n z)
refused_back n z reason u ws N Z e =
    let p = signed_word z (omega arith) in
    let spot = signed_decimal z ++ codes ":" in
    let four : words (signed_decimal z ++ (codes ":" ++ (codes " " ++ reason))) ≡ spot ∷ (u ∷ ws) =
    ap words (sym (append_assoc (signed_decimal z) (codes ":") (codes " " ++ reason)))
    ∙ words_front spot reason (u ∷ ws) (solid_append (signed_decimal z) (codes ":") p.0 (solid_by (codes ":") refl), omega (arith, length-append (signed_decimal z) (codes ":"))) e in
    ap (λ (l : List ℕ). said_of (words l)) (behind_colon (signed_decimal n) (signed_decimal z) (codes " " ++ reason))
    ∙ ap said_of (key_front (codes "refused") _ _ refl (lit< tt) (number_front n _ _ N (key_front (codes "at") _ _ refl (lit< tt) four)))
    ∙ ap₂ as_refusal (read_back n N) (place_back (signed_decimal z) ∙ read_back z Z)

-- a text that begins with no blank has a word
abbrev Worded : List ℕ → Type 0
Worded bs = (u : List ℕ) × (ws : List (List ℕ)) × (words bs ≡ u ∷ ws)

worded : (b : ℕ) (bs : List ℕ) → blank b ≡ false → Worded (b ∷ bs)
unfolding pieces filled
worded b bs h = go (pieces bs) refl
  where
    go : (ps : List (List ℕ)) → pieces bs ≡ ps → Worded (b ∷ bs)
    go [] e = (b ∷ [], [], ap filled (cond-false _ _ _ h ∙ ap (before_first b) e))
    go (w ∷ ws) e = (b ∷ w, filled ws, ap filled (cond-false _ _ _ h ∙ ap (before_first b) e))

reasoned : (e : Refusal) → Worded (reason_text e)
reasoned (File p) = worded 116 _ refl
reasoned Line = worded 116 _ refl
reasoned (Tick t) = worded 116 _ refl
reasoned (Asked n) = worded 115 _ refl
reasoned (Text l) = worded 116 _ refl

numbered : (e : Refusal) → refusal_number e < 10 ^ 18
numbered (File p) = lit< tt
numbered Line = lit< tt
numbered (Tick t) = lit< tt
numbered (Asked n) = lit< tt
numbered (Text l) = lit< tt

refusal_back : (e : Refusal) → nat_abs (refusal_place e) < 10 ^ 18 → said_of (words (refusal_line e)) ≡ Some (refused e)
refusal_back e h =
    let r = reasoned e in
    refused_back (pos (refusal_number e)) (refusal_place e) (reason_text e) r.0 r.1 (numbered e) h r.2

pub answers_back : AnswersBack
answers_back = (answer_back, refusal_back)
