-- Only the words of an answer are read as it. Assumes nothing.
use Rattle.std.proofs.Common.{◌≡◌, ℕ, ◌-◌, Bool, true, false, cond, ◌&&◌, List, [], ◌∷◌, ◌++◌, length, take, drop, ℤ, Some, None, codes, Decides, Option, sym, refl, ap, ◌∙◌, take-append-drop}
use Rattle.std.specs.Str.{bytes_eq}
use Rattle.std.proofs.lemmas.Option.{none-some}
use Rattle.std.proofs.lemmas.Slice.Eq.{bytes_eq-Decides}
use Rattle.replies.specs.Said.{Place, Says, as_crossing, as_number, as_refusal, as_span, one_word, place_of, refusal_of}
use Rattle.replies.specs.Promise.{AnswersTold}
use Rattle.replies.specs.declared.answer.Said.{Said}
use Rattle.replies.specs.declared.answer.Said.TheVariants.{Nothing, Number, Rise, Set, Span, Hidden, Refused}
use Rattle.words.specs.Numbers.{number_of}
use Rattle.words.proofs.Told.{same_told, tried}

-- one word
number_said : (w : List ℕ) (o : Option ℤ) (t : Said) → number_of w ≡ o → as_number o ≡ Some t → Says t (w ∷ [])
number_said w None t n e = absurd (none-some t e)
number_said w (Some z) t n e = same_told (λ s. Says s (w ∷ [])) (Number z) t e (n, tt)

one_said : (w : List ℕ) (t : Said) → one_word w ≡ Some t → Says t (w ∷ [])
one_said w t =
    tried S w (codes "none") Nothing t _ (λ e. ap (λ (v : List ℕ). v ∷ []) e)
    (tried S w (codes "hidden") Hidden t _ (λ e. ap (λ (v : List ℕ). v ∷ []) e) (number_said w (number_of w) t refl))
  where
    S : Said → Type 0
    S s = Says s (w ∷ [])

-- two words
crossing_said : (w v : List ℕ) (o : Option ℤ) (t : Said) → number_of v ≡ o → as_crossing w o ≡ Some t → Says t (w ∷ v ∷ [])
crossing_said w v None t n e = absurd (none-some t e)
crossing_said w v (Some z) t n e =
    tried S w (codes "rise") (Rise z) t _ (λ k. (k, (n, tt)))
    (tried S w (codes "set") (Set z) t None (λ k. (k, (n, tt))) (λ q. absurd (none-some t q))) e
  where
    S : Said → Type 0
    S s = Says s (w ∷ v ∷ [])

-- four words
span_said : (w v x y : List ℕ) (a b c d : Option ℤ) (t : Said) → number_of w ≡ a → number_of v ≡ b → number_of x ≡ c → number_of y ≡ d → as_span a b c d ≡ Some t → Says t (w ∷ v ∷ x ∷ y ∷ [])
span_said w v x y None b c d t k l m n e = absurd (none-some t e)
span_said w v x y (Some a) None c d t k l m n e = absurd (none-some t e)
span_said w v x y (Some a) (Some b) None d t k l m n e = absurd (none-some t e)
span_said w v x y (Some a) (Some b) (Some c) None t k l m n e = absurd (none-some t e)
span_said w v x y (Some a) (Some b) (Some c) (Some d) t k l m n e = same_told (λ s. Says s (w ∷ v ∷ x ∷ y ∷ [])) (Span a b c d) t e (k, (l, (m, (n, tt))))

-- a place
place_said : (w : List ℕ) (z : ℤ) → place_of w ≡ Some z → Place z w
place_said w z e = go (bytes_eq (drop (length w - 1) w) (codes ":")) (bytes_eq-Decides (drop (length w - 1) w) (codes ":")) e
  where
    go : (b : Bool) → Decides b (drop (length w - 1) w ≡ codes ":") → cond b (number_of (take (length w - 1) w)) None ≡ Some z → Place z w
    go true d q = (take (length w - 1) w, sym (take-append-drop (length w - 1) w) ∙ ap (λ (l : List ℕ). take (length w - 1) w ++ l) (d.0 refl), q)
    go false d q = absurd (none-some z q)

-- five words or more
refused_said : (w v x y u : List ℕ) (ws : List (List ℕ)) (n p : Option ℤ) (t : Said) → w ≡ codes "refused" → x ≡ codes "at" → number_of v ≡ n → place_of y ≡ p → as_refusal n p ≡ Some t → Says t (w ∷ v ∷ x ∷ y ∷ u ∷ ws)
refused_said w v x y u ws None p t k l m q e = absurd (none-some t e)
refused_said w v x y u ws (Some n) None t k l m q e = absurd (none-some t e)
refused_said w v x y u ws (Some n) (Some z) t k l m q e = same_told (λ s. Says s (w ∷ v ∷ x ∷ y ∷ u ∷ ws)) (Refused n z) t e (k, m, l, place_said y z q)

refusal_said : (w v x y u : List ℕ) (ws : List (List ℕ)) (t : Said) → refusal_of w v x y ≡ Some t → Says t (w ∷ v ∷ x ∷ y ∷ u ∷ ws)
refusal_said w v x y u ws t e = go (bytes_eq w (codes "refused")) (bytes_eq x (codes "at")) (bytes_eq-Decides w (codes "refused")) (bytes_eq-Decides x (codes "at")) e
  where
    go : (a b : Bool) → Decides a (w ≡ codes "refused") → Decides b (x ≡ codes "at") → cond (a && b) (as_refusal (number_of v) (place_of y)) None ≡ Some t → Says t (w ∷ v ∷ x ∷ y ∷ u ∷ ws)
    go true true d f q = refused_said w v x y u ws (number_of v) (place_of y) t (d.0 refl) (f.0 refl) refl refl q
    go true false d f q = absurd (none-some t q)
    go false b d f q = absurd (none-some t q)

pub answers_told : AnswersTold
answers_told [] t e = absurd (none-some t e)
answers_told (w ∷ []) t e = one_said w t e
answers_told (w ∷ v ∷ []) t e = crossing_said w v (number_of v) t refl e
answers_told (w ∷ v ∷ x ∷ []) t e = absurd (none-some t e)
answers_told (w ∷ v ∷ x ∷ y ∷ []) t e = span_said w v x y (number_of w) (number_of v) (number_of x) (number_of y) t refl refl refl refl e
answers_told (w ∷ v ∷ x ∷ y ∷ u ∷ ws) t e = refusal_said w v x y u ws t e
