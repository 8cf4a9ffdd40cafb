-- A question, as a step. Assumes nothing.
use Rattle.std.proofs.Common.{◌≡◌, ℕ, ◌^◌, ◌≤◌, Bool, true, false, ◌||◌, nat_le, List, ◌++◌, ℤ, unsigned_abs, Some, None, Ok, Err, Option, Result, sym, refl, ap, ◌∙◌, subst}
use Rattle.std.proofs.lemmas.Bool.{cond-true, cond-false, leb-true, false_from_ne_true}
use Rattle.almanac.specs.declared.ask.Fault.{Fault}
use Rattle.almanac.specs.declared.ask.Fault.TheVariants.{Refused, Memory}
use Rattle.height.specs.Files.{Good, first_beyond}
use Rattle.height.specs.declared.refusal.Refusal.{Refusal}
use Rattle.height.specs.declared.refusal.Refusal.TheVariants.{File, Line}
use Rattle.text.specs.Answers.{refusal_bytes}
use Rattle.text.specs.declared.order.Order.{Order}
use Rattle.text.specs.declared.order.Order.TheVariants.{Line as ForLine, First, Height, Spans, Table, Tables}
use Rattle.session.proofs.Checking.{good_no, good_yes}
use Rattle.session.specs.Held.{Answers}
use Rattle.session.specs.Replies.{Replies, answer, refuses_as, reply}
use Rattle.session.specs.Sessions.{Phase, State, Step, reading, asking, ended, begun, begun_phase, next_line, passed, with_order, with_reply}

or_false : (b : Bool) → b || false ≡ b
or_false true = refl
or_false false = refl

or_true : (b : Bool) → b || true ≡ true
or_true true = refl
or_true false = refl

begun_asking : (p : Phase) → (p ≡ ended → ⊥) → begun_phase p ≡ asking
begun_asking reading h = refl
begun_asking asking h = refl
begun_asking ended h = absurd (h refl)

-- whether the first question has begun makes no difference to what an order leads to
begun_too : (s : State) (o : Option Order) → with_order (begun s) o ≡ with_order s o
begun_too s None = refl
begun_too s (Some (ForLine z)) = refl
begun_too s (Some (First e z)) = refl
begun_too s (Some (Height z)) = refl
begun_too s (Some (Spans x y)) = refl
begun_too s (Some (Table z)) = refl
begun_too s (Some Tables) = refl

-- ---- one order
-- an order other than a new line is replied to
replied : (s : State) (o : Order) → ((z : ℤ) → o ≡ ForLine z → ⊥) → with_order s (Some o) ≡ with_reply s (reply s.numbers s.line o)
replied s (ForLine z) h = absurd (h z refl)
replied s (First e z) h = refl
replied s (Height z) h = refl
replied s (Spans x y) h = refl
replied s (Table z) h = refl
replied s Tables h = refl

pub is_refused : (s : State) (o : Option Order) (e : Refusal) (was : List ℕ) (r : Result (Unit {0}) Fault) → with_order s o ≡ with_reply s (refuses_as e) → r ≡ Err (Refused e) → Answers s o s was was r
is_refused s o e was r p h = subst (Answers s o s was was) (sym h) (p, refl, refl)

pub far_line : (s : State) (o : Option Order) (z : ℤ) → o ≡ Some (ForLine z) → (unsigned_abs z ≤ 2 ^ 24 → ⊥) → with_order s o ≡ with_reply s (refuses_as Line)
far_line s o z e h = ap (with_order s) e ∙ cond-false (nat_le (unsigned_abs z) (2 ^ 24)) _ _ (false_from_ne_true _ (λ t. h (leb-true (unsigned_abs z) (2 ^ 24) t)))

pub bad_file : (s : State) (o : Option Order) (order : Order) → o ≡ Some order → ((z : ℤ) → order ≡ ForLine z → ⊥) → (Good s.numbers → ⊥) → with_order s o ≡ with_reply s (refuses_as (File (first_beyond s.numbers)))
bad_file s o order e other bad =
    ap (with_order s) e ∙ replied s order other ∙ ap (with_reply s) (cond-false _ _ _ (good_no s.numbers bad))

pub is_answered : (s : State) (o : Option Order) (order : Order) (xs : List ℤ) (was is : List ℕ) (r : Result (Unit {0}) Fault) → s.phase ≡ asking → o ≡ Some order → ((z : ℤ) → order ≡ ForLine z → ⊥) → Good s.numbers → xs ≡ s.numbers → Replies was (answer xs s.line order) is r → Answers s o s was is r
is_answered s o order xs was is r asks e other good same q = go r q
  where
    step : with_order s o ≡ with_reply s (answer xs s.line order)
    step =
        ap (with_order s) e ∙ replied s order other ∙ ap (with_reply s) (cond-true _ _ _ (good_yes s.numbers good))
        ∙ ap (λ (ys : List ℤ). with_reply s (answer ys s.line order)) (sym same)

    go : (r : Result (Unit {0}) Fault) → Replies was (answer xs s.line order) is r → Answers s o s was is r
    go (Ok u) q = (
      (λ i. record { numbers = s.numbers; line = s.line; phase = asks i; at = next_line s.at; refused = (sym (or_false s.refused) ∙ ap (λ (b : Bool). s.refused || b) (sym q.0)) i })
          ∙ ap (λ (p : Step). p.state) (sym step),
      q.1 ∙ ap (λ (p : Step). was ++ p.text) (sym step),
    )
    go (Err (Refused x)) q = (step ∙ ap (with_reply s) q.0, refl, q.1)
    go (Err (Memory e)) q = tt

-- ---- and the next line, behind the first question
module _ (s b t n : State) (o : Option Order) (was : List ℕ) (begins : b ≡ begun s) where
  same_step : with_order b o ≡ with_order s o
  same_step = ap (λ (x : State). with_order x o) begins ∙ begun_too s o

  pub went_on : (is : List ℕ) → n ≡ passed t → (passed t ≡ (with_order b o).state) × (is ≡ was ++ (with_order b o).text) → (n ≡ (with_order s o).state) × (is ≡ was ++ (with_order s o).text)
  went_on is next p = (next ∙ p.0 ∙ ap (λ (x : Step). x.state) same_step, p.1 ∙ ap (λ (x : Step). was ++ x.text) same_step)

  pub went_on_refused : (e : Refusal) (u : State) (had is : List ℕ) → n ≡ passed u → (s.phase ≡ ended → ⊥) → (with_order b o ≡ with_reply b (refuses_as e)) × (t ≡ b) × (had ≡ was) → (u ≡ record { numbers = t.numbers; line = t.line; phase = t.phase; at = t.at; refused = true }) × (is ≡ had ++ refusal_bytes e) → (n ≡ (with_order s o).state) × (is ≡ was ++ (with_order s o).text)
  went_on_refused e u had is next going p q =
      let step : with_reply (begun s) (refuses_as e) ≡ with_order s o = ap (λ (x : State). with_reply x (refuses_as e)) (sym begins) ∙ sym p.0 ∙ same_step in (
        next ∙ ap passed q.0
            ∙ ap (λ (x : State). record { numbers = x.numbers; line = x.line; phase = x.phase; at = next_line x.at; refused = true }) (p.1 ∙ begins)
            ∙ (λ i. record { numbers = s.numbers; line = s.line; phase = begun_asking s.phase going i; at = next_line s.at; refused = sym (or_true s.refused) i })
            ∙ ap (λ (x : Step). x.state) step,
        q.1 ∙ ap (λ (w : List ℕ). w ++ refusal_bytes e) p.2 ∙ ap (λ (x : Step). was ++ x.text) step,
      )
