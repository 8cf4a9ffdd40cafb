-- What is written is lines that are read, each with a line break. Assumes nothing.
use Rattle.std.proofs.Common.{◌≡◌, ℕ, Bool, true, false, List, ◌++◌, ℤ, codes, decimal, sym, refl, ap, ◌∙◌, append_assoc}
use Rattle.std.specs.Fmt.{signed_decimal}
use Rattle.std.proofs.lemmas.Bool.{cond-false}
use Rattle.height.specs.declared.refusal.Refusal.{Refusal}
use Rattle.height.specs.Refusals.{refusal_number, refusal_place}
use Rattle.height.specs.Texts.{reason_text}
use Rattle.replies.specs.Said.{crossed, refusal_line, said_bytes}
use Rattle.replies.specs.Promise.{LinesSaid}
use Rattle.text.specs.Answers.{crossing_bytes, refusal_bytes, span_bytes}

abbrev nl : List ℕ
nl = codes "\n"

span_line : (a b c d : ℤ) → span_bytes a b c d ≡ (signed_decimal a ++ (codes " " ++ (signed_decimal b ++ (codes " " ++ (signed_decimal c ++ (codes " " ++ signed_decimal d)))))) ++ nl
span_line a b c d = sym
    (append_assoc (signed_decimal a) _ nl
    ∙ ap (λ (l : List ℕ). signed_decimal a ++ (codes " " ++ l)) (append_assoc (signed_decimal b) _ nl
    ∙ ap (λ (l : List ℕ). signed_decimal b ++ (codes " " ++ l)) (append_assoc (signed_decimal c) _ nl)))

crossing_line : (t : ℕ) (r : Bool) → crossing_bytes (record { tick = t; rises = r }) ≡ said_bytes (crossed (record { tick = t; rises = r })) ++ nl
crossing_line t true = refl
crossing_line t false = refl

-- what stands behind the colon of a refusal
pub behind_colon : (n p r : List ℕ) → (codes "refused " ++ (n ++ (codes " at " ++ (p ++ codes ":")))) ++ r ≡ codes "refused " ++ (n ++ (codes " at " ++ (p ++ (codes ":" ++ r))))
behind_colon n p r =
    ap (λ (l : List ℕ). codes "refused " ++ l) (append_assoc n (codes " at " ++ (p ++ codes ":")) r ∙ ap (λ (l : List ℕ). n ++ (codes " at " ++ l)) (append_assoc p (codes ":") r))

refused_line : (e : Refusal) → refusal_bytes e ≡ refusal_line e ++ nl
refused_line e = ap (λ (l : List ℕ). l ++ nl) (sym (behind_colon (decimal (refusal_number e)) (signed_decimal (refusal_place e)) (codes " " ++ reason_text e)))

pub lines_said : LinesSaid
lines_said = record {
  tick = λ t. refl;
  no_tick = refl;
  height = λ h. refl;
  crossing = λ c. crossing_line c.tick c.rises;
  span = span_line;
  hidden = λ d h. cond-false _ _ _ h;
  refusal = refused_line;
}
