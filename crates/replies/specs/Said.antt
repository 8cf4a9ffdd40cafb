-- Answers as text: what a line's words say, and how what is said is written. Assumes nothing: these are definitions.
use Rattle.std.specs.Prelude.{◌≡◌, ℕ, ◌-◌, cond, ◌&&◌, List, [], ◌∷◌, ◌++◌, length, take, drop, ℤ, pos, Some, None, codes, Option}
use Rattle.std.specs.Fmt.{signed_decimal}
use Rattle.std.specs.Str.{bytes_eq}
use Rattle.crossing.specs.declared.event.Crossing.{Crossing}
use Rattle.height.specs.declared.refusal.Refusal.{Refusal}
use Rattle.height.specs.Refusals.{refusal_number, refusal_place}
use Rattle.height.specs.Texts.{reason_text}
use Rattle.replies.specs.declared.answer.Said.{Said}
use Rattle.replies.specs.declared.answer.Said.TheVariants.{Nothing, Number, Rise, Set, Span, Hidden, Refused}
use Rattle.text.specs.Orders.{Are}
use Rattle.words.specs.Numbers.{number_of}

-- what may be numbers
abbrev pub as_number : Option ℤ → Option Said
as_number None = None
as_number (Some z) = Some (Number z)

abbrev pub as_crossing : List ℕ → Option ℤ → Option Said
as_crossing w None = None
as_crossing w (Some z) = cond (bytes_eq w (codes "rise")) (Some (Rise z)) (cond (bytes_eq w (codes "set")) (Some (Set z)) None)

abbrev pub as_span : Option ℤ → Option ℤ → Option ℤ → Option ℤ → Option Said
as_span None o p q = None
as_span (Some a) None p q = None
as_span (Some a) (Some b) None q = None
as_span (Some a) (Some b) (Some c) None = None
as_span (Some a) (Some b) (Some c) (Some d) = Some (Span a b c d)

abbrev pub as_refusal : Option ℤ → Option ℤ → Option Said
as_refusal None p = None
as_refusal (Some n) None = None
as_refusal (Some n) (Some z) = Some (Refused n z)

-- one word, two words, four words
abbrev pub one_word : List ℕ → Option Said
one_word w = cond (bytes_eq w (codes "none")) (Some Nothing) (cond (bytes_eq w (codes "hidden")) (Some Hidden) (as_number (number_of w)))

abbrev pub two_words : List ℕ → List ℕ → Option Said
two_words w v = as_crossing w (number_of v)

abbrev pub span_of : (w v x y : List ℕ) → Option Said
span_of w v x y = as_span (number_of w) (number_of v) (number_of x) (number_of y)

-- a number and a colon
abbrev pub place_of : List ℕ → Option ℤ
place_of w = cond (bytes_eq (drop (length w - 1) w) (codes ":")) (number_of (take (length w - 1) w)) None

-- four words that a reason follows
abbrev pub refusal_of : (w v x y : List ℕ) → Option Said
refusal_of w v x y = cond (bytes_eq w (codes "refused") && bytes_eq x (codes "at")) (as_refusal (number_of v) (place_of y)) None

-- what the words of a line say; none where they are no answer
abbrev pub said_of : List (List ℕ) → Option Said
said_of [] = None
said_of (w ∷ []) = one_word w
said_of (w ∷ v ∷ []) = two_words w v
said_of (w ∷ v ∷ x ∷ []) = None
said_of (w ∷ v ∷ x ∷ y ∷ []) = span_of w v x y
said_of (w ∷ v ∷ x ∷ y ∷ u ∷ ws) = refusal_of w v x y

-- how what is said is written, without the line break; a reason follows a refusal
abbrev pub said_bytes : Said → List ℕ
said_bytes Nothing = codes "none"
said_bytes (Number z) = signed_decimal z
said_bytes (Rise z) = codes "rise " ++ signed_decimal z
said_bytes (Set z) = codes "set " ++ signed_decimal z
said_bytes (Span a b c d) = signed_decimal a ++ (codes " " ++ (signed_decimal b ++ (codes " " ++ (signed_decimal c ++ (codes " " ++ signed_decimal d)))))
said_bytes Hidden = codes "hidden"
said_bytes (Refused n z) = codes "refused " ++ (signed_decimal n ++ (codes " at " ++ (signed_decimal z ++ codes ":")))

-- what a refusal says, and its line with the reason
abbrev pub refused : Refusal → Said
refused e = Refused (pos (refusal_number e)) (refusal_place e)

abbrev pub refusal_line : Refusal → List ℕ
refusal_line e = said_bytes (refused e) ++ (codes " " ++ reason_text e)

-- what a rising or a setting says
abbrev pub crossed : Crossing → Said
crossed c = cond c.rises (Rise (pos c.tick)) (Set (pos c.tick))

-- the numbers in what is said
abbrev pub numbers : Said → List ℤ
numbers Nothing = []
numbers (Number z) = z ∷ []
numbers (Rise z) = z ∷ []
numbers (Set z) = z ∷ []
numbers (Span a b c d) = a ∷ b ∷ c ∷ d ∷ []
numbers Hidden = []
numbers (Refused n z) = n ∷ z ∷ []

-- an answer, and no refusal
abbrev pub Answered : Said → Type 0
Answered Nothing = Unit {0}
Answered (Number z) = Unit {0}
Answered (Rise z) = Unit {0}
Answered (Set z) = Unit {0}
Answered (Span a b c d) = Unit {0}
Answered Hidden = Unit {0}
Answered (Refused n z) = ⊥

-- a word, and words that are these numbers
abbrev pub Key : List ℕ → List ℤ → List (List ℕ) → Type 0
Key k zs [] = ⊥
Key k zs (w ∷ ws) = (w ≡ k) × Are zs ws

-- a number with a colon behind it
abbrev pub Place : ℤ → List ℕ → Type 0
Place z w = (v : List ℕ) × (w ≡ v ++ codes ":") × (number_of v ≡ Some z)

-- `refused`, a number, `at`, a place, and a reason of one word or more
abbrev pub Refuses : ℤ → ℤ → List (List ℕ) → Type 0
Refuses n z [] = ⊥
Refuses n z (w ∷ []) = ⊥
Refuses n z (w ∷ v ∷ []) = ⊥
Refuses n z (w ∷ v ∷ x ∷ []) = ⊥
Refuses n z (w ∷ v ∷ x ∷ y ∷ []) = ⊥
Refuses n z (w ∷ v ∷ x ∷ y ∷ u ∷ ws) = (w ≡ codes "refused") × (number_of v ≡ Some n) × (x ≡ codes "at") × Place z y

-- words that say this, no less and no more but for the reason of a refusal
abbrev pub Says : Said → List (List ℕ) → Type 0
Says Nothing ws = ws ≡ codes "none" ∷ []
Says (Number z) ws = Are (z ∷ []) ws
Says (Rise z) ws = Key (codes "rise") (z ∷ []) ws
Says (Set z) ws = Key (codes "set") (z ∷ []) ws
Says (Span a b c d) ws = Are (a ∷ b ∷ c ∷ d ∷ []) ws
Says Hidden ws = ws ≡ codes "hidden" ∷ []
Says (Refused n z) ws = Refuses n z ws
