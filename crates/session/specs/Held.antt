-- The state that a session holds. Assumes nothing: these are definitions.
use Rattle.std.specs.Prelude.{◌≡◌, ℕ, true, List, ◌++◌, Ok, Err, vec_items, Option, Result}
use Rattle.almanac.specs.declared.ask.Fault.{Fault}
use Rattle.almanac.specs.declared.ask.Fault.TheVariants.{Refused, Memory}
use Rattle.height.specs.declared.refusal.Refusal.{Refusal}
use Rattle.session.specs.declared.session.Session.{Session}
use Rattle.session.specs.declared.stage.Stage.{Stage}
use Rattle.session.specs.declared.stage.Stage.TheVariants.{Reading, Asking, Ended}
use Rattle.text.specs.Answers.{refusal_bytes}
use Rattle.text.specs.declared.order.Order.{Order}
use Rattle.session.specs.Replies.{refuses_as}
use Rattle.session.specs.Sessions.{Phase, reading, asking, ended, State, Step, passed, with_order, with_reply}

abbrev pub phase_of : Stage → Phase
phase_of Reading = reading
phase_of (Asking checked) = asking
phase_of Ended = ended

abbrev pub state_of : Session → State
state_of s = record { numbers = vec_items s.numbers; line = s.line.thousandths; phase = phase_of s.stage; at = s.at; refused = s.refused }

-- a step was made: the state is the step's, and its text is at the end of what was written, if there was memory for it
abbrev pub Makes : {T E : Type 0} → Step → (is : State) → (was now : List ℕ) → Result T E → Type 0
Makes p is was now (Ok u) = (is ≡ p.state) × (now ≡ was ++ p.text)
Makes p is was now (Err e) = Unit {0}

-- a refusal is written and kept in mind, if there was memory for it
abbrev pub Refuses : {E : Type 0} → State → Refusal → (is : State) → (was now : List ℕ) → Result (Unit {0}) E → Type 0
Refuses s e is was now (Ok u) =
    (is ≡ record { numbers = s.numbers; line = s.line; phase = s.phase; at = s.at; refused = true }) × (now ≡ was ++ refusal_bytes e)
Refuses s e is was now (Err f) = Unit {0}

-- A question is answered: its text is written, and with the next line the state is its step's. Or it is refused, and nothing is written and nothing changed.
abbrev pub Answers : State → Option Order → State → (was now : List ℕ) → Result (Unit {0}) Fault → Type 0
Answers s o t was now (Ok u) = (passed t ≡ (with_order s o).state) × (now ≡ was ++ (with_order s o).text)
Answers s o t was now (Err (Refused e)) = (with_order s o ≡ with_reply s (refuses_as e)) × (t ≡ s) × (now ≡ was)
Answers s o t was now (Err (Memory e)) = Unit {0}
