-- What is promised of a whole run. Assumes nothing.
use Rattle.std.proofs.Common.{◌≡◌, ℕ, ◌^◌, Bool, true, false, cond, leb, List, [], ◌∷◌, ◌++◌, ℤ, nat_abs, Some, None, Option, refl, ap, ◌∙◌, append-nil}
use Rattle.std.proofs.lemmas.Bool.{le-leb, leb-true, false_from_ne_true}
use Rattle.height.specs.declared.refusal.Refusal.TheVariants.{Line, Text}
use Rattle.text.specs.Answers.{refusal_bytes}
use Rattle.text.specs.declared.order.Order.{Order}
use Rattle.text.specs.declared.order.Order.TheVariants.{Line as ForLine, First, Height, Spans, Table, Tables}
use Rattle.words.specs.Words.{words}
use Rattle.session.specs.declared.kind.Kind.{Kind}
use Rattle.session.specs.Lines.{bare}
use Rattle.session.specs.Promise.{Ended, NotWhollyRead, NumbersTooLate, OrdersKeep}
use Rattle.session.specs.Replies.{refuses_as}
use Rattle.session.specs.Sessions.{Phase, State, Step, asking, by_kind, ended, ends, kind_of, next_line, numbers_in, quietly, run_lines, step, unless_ended, with_line, with_numbers, with_order, with_reply}

stays : (s : State) (l : List ℕ) → s.phase ≡ ended → step s l ≡ quietly s
stays s l e = ap (λ (p : Phase). unless_ended p s (by_kind (kind_of (words (bare l))) s (words (bare l)))) e

pub ended_stays : Ended
unfolding run_lines
ended_stays s [] e = (refl, refl)
ended_stays s (l ∷ ls) e =
    let one = stays s l e in
    let more = ended_stays s ls e in (
      ap (λ (p : Step). (run_lines p.state ls).state) one ∙ more.0,
      ap (λ (p : Step). p.text ++ (run_lines p.state ls).text) one ∙ more.1,
    )

-- a step that ends the text, and whatever follows
ended_by : (s : State) (l : List ℕ) (ls : List (List ℕ)) → step s l ≡ ends s → (run_lines s (l ∷ ls)).text ≡ refusal_bytes (Text s.at)
unfolding run_lines
ended_by s l ls e =
    ap (λ (p : Step). p.text ++ (run_lines p.state ls).text) e
    ∙ ap (λ (t : List ℕ). refusal_bytes (Text s.at) ++ t) (ended_stays (ends s).state ls refl).1 ∙ append-nil _

pub not_wholly_read : NotWhollyRead
not_wholly_read s l ls e k n =
    ended_by s l ls
    (ap (λ (p : Phase). unless_ended p s (by_kind (kind_of (words (bare l))) s (words (bare l)))) e
    ∙ ap (λ (x : Kind). by_kind x s (words (bare l))) k ∙ ap (λ (p : Phase). numbers_in p s (words (bare l))) e
    ∙ ap (λ (o : Option (List ℤ)). with_numbers s o) n)

pub numbers_too_late : NumbersTooLate
numbers_too_late s l ls e k =
    ended_by s l ls
    (ap (λ (p : Phase). unless_ended p s (by_kind (kind_of (words (bare l))) s (words (bare l)))) e
    ∙ ap (λ (x : Kind). by_kind x s (words (bare l))) k ∙ ap (λ (p : Phase). numbers_in p s (words (bare l))) e)

module _ (s : State) where
  near_line : (t : Bool) (z : ℤ) → (cond t (quietly (record { numbers = s.numbers; line = z; phase = asking; at = next_line s.at; refused = s.refused })) (with_reply s (refuses_as Line))).state.numbers ≡ s.numbers
  near_line true z = refl
  near_line false z = refl

  file_stays : (o : Option Order) → (with_order s o).state.numbers ≡ s.numbers
  file_stays None = refl
  file_stays (Some (ForLine z)) = near_line (leb (nat_abs z) (2 ^ 24)) z
  file_stays (Some (First e z)) = refl
  file_stays (Some (Height z)) = refl
  file_stays (Some (Spans x y)) = refl
  file_stays (Some (Table z)) = refl
  file_stays (Some Tables) = refl

  line_stays : (o : Option Order) → ((z : ℤ) → o ≡ Some (ForLine z) → ⊥) → (with_order s o).state.line ≡ s.line
  line_stays None h = refl
  line_stays (Some (ForLine z)) h = absurd (h z refl)
  line_stays (Some (First e z)) h = refl
  line_stays (Some (Height z)) h = refl
  line_stays (Some (Spans x y)) h = refl
  line_stays (Some (Table z)) h = refl
  line_stays (Some Tables) h = refl

  by_test : (t : Bool) (z : ℤ) → leb (nat_abs z) (2 ^ 24) ≡ t → (with_line s z).state.line ≡ cond t z s.line
  by_test true z e = ap (λ (b : Bool). (cond b (quietly (record { numbers = s.numbers; line = z; phase = asking; at = next_line s.at; refused = s.refused })) (with_reply s (refuses_as Line))).state.line) e
  by_test false z e = ap (λ (b : Bool). (cond b (quietly (record { numbers = s.numbers; line = z; phase = asking; at = next_line s.at; refused = s.refused })) (with_reply s (refuses_as Line))).state.line) e

pub orders_keep : OrdersKeep
orders_keep s = record {
  file = file_stays s;
  unreadable = refl;
  question = line_stays s;
  far = λ z h. by_test s false z (false_from_ne_true (leb (nat_abs z) (2 ^ 24)) (λ e. h (leb-true (nat_abs z) (2 ^ 24) e)));
  near = λ z h. by_test s true z (le-leb (nat_abs z) (2 ^ 24) h);
}
