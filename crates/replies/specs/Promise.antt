-- What is written is read as it was. Statements only.
use Rattle.std.specs.Prelude.{◌≡◌, ℕ, ◌^◌, ◌<◌, true, false, List, [], ◌∷◌, ◌++◌, ℤ, pos, Some, None, codes, int_le, unsigned_abs}
use Rattle.binary.specs.Nearest.{half_place, nearest_over}
use Rattle.crossing.specs.declared.event.Crossing.{Crossing}
use Rattle.decimal.specs.Figures.{error_text, float_text}
use Rattle.decimal.specs.Promise.{OffBy, Says as SaysFloat}
use Rattle.height.specs.declared.refusal.Refusal.{Refusal}
use Rattle.height.specs.Refusals.{refusal_place}
use Rattle.replies.specs.Said.{Answered, Says, crossed, numbers, refusal_line, refused, said_bytes, said_of}
use Rattle.replies.specs.declared.answer.Said.{Said}
use Rattle.replies.specs.declared.answer.Said.TheVariants.{Nothing, Number, Span, Hidden}
use Rattle.text.specs.Answers.{crossing_bytes, height_bytes, near_bytes, refusal_bytes, sight_bytes, span_bytes, tick_bytes}
use Rattle.text.specs.Promise.{Short}
use Rattle.words.specs.Words.{words}

-- numbers of at most 18 figures
abbrev pub AllShort : List ℤ → Type 0
AllShort [] = Unit {0}
AllShort (z ∷ zs) = Short z × AllShort zs

-- an answer whose numbers have at most 18 figures, as it is written, is read as it was; and so is a refusal with its reason
abbrev pub AnswersBack : Type 0
AnswersBack = ((s : Said) → Answered s → AllShort (numbers s) → said_of (words (said_bytes s)) ≡ Some s)
    × ((e : Refusal) → unsigned_abs (refusal_place e) < 10 ^ 18 → said_of (words (refusal_line e)) ≡ Some (refused e))

-- and only the words of an answer are read as it
abbrev pub AnswersTold : Type 0
AnswersTold = (ws : List (List ℕ)) (s : Said) → said_of ws ≡ Some s → Says s ws

-- what the crate `text` writes is such lines, each with a line break
pub record LinesSaid : Type 0 where
  pub tick : (t : ℕ) → tick_bytes (Some t) ≡ said_bytes (Number (pos t)) ++ codes "\n"
  pub no_tick : tick_bytes None ≡ said_bytes Nothing ++ codes "\n"
  pub height : (h : ℤ) → height_bytes h ≡ said_bytes (Number h) ++ codes "\n"
  pub crossing : (c : Crossing) → crossing_bytes c ≡ said_bytes (crossed c) ++ codes "\n"
  pub span : (a b c d : ℤ) → span_bytes a b c d ≡ said_bytes (Span a b c d) ++ codes "\n"
  pub hidden : (d : ℤ) → int_le (pos 0) d ≡ false → sight_bytes d ≡ said_bytes Hidden ++ codes "\n"
  pub refusal : (e : Refusal) → refusal_bytes e ≡ refusal_line e ++ codes "\n"

-- the lines of `near` and `seen`, without the line break
abbrev pub near_line : ℤ → List ℕ
near_line h = float_text 30 h ++ (codes " " ++ error_text 30 h)

abbrev pub seen_line : ℤ → List ℕ
seen_line d = codes "seen " ++ float_text 30 d

-- the words of a line of `near` are two numbers, just the nearest binary64 number and half of its last place, and the exact height is as near to the one as the other says
pub record NearRead (h : ℤ) : Type 0 where
  pub line : near_bytes h ≡ near_line h ++ codes "\n"
  pub two : words (near_line h) ≡ float_text 30 h ∷ error_text 30 h ∷ []
  pub number : SaysFloat (nearest_over 30 h) (float_text 30 h)
  pub half : SaysFloat (half_place 30 h) (error_text 30 h)
  pub off : OffBy 30 h (float_text 30 h) (error_text 30 h)

-- those of a line of `seen` are `seen` and the nearest binary64 number
pub record SeenRead (d : ℤ) : Type 0 where
  pub line : sight_bytes d ≡ seen_line d ++ codes "\n"
  pub two : words (seen_line d) ≡ codes "seen" ∷ float_text 30 d ∷ []
  pub number : SaysFloat (nearest_over 30 d) (float_text 30 d)

abbrev pub ReadingsBack : Type 0
ReadingsBack = ((h : ℤ) → unsigned_abs h < 2 ^ 62 → NearRead h) × ((d : ℤ) → unsigned_abs d < 2 ^ 62 → int_le (pos 0) d ≡ true → SeenRead d)
