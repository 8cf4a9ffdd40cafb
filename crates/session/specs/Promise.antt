-- What is promised of a whole run, over its definition. Assumes nothing.
use Rattle.std.specs.Prelude.{◌≡◌, ℕ, ◌^◌, ◌≤◌, List, [], ◌∷◌, ℤ, Some, None, Option, ◌≢◌, unsigned_abs}
use Rattle.height.specs.declared.refusal.Refusal.TheVariants.{Text}
use Rattle.text.specs.Answers.{refusal_bytes}
use Rattle.text.specs.declared.order.Order.{Order}
use Rattle.text.specs.declared.order.Order.TheVariants.{Line as ForLine}
use Rattle.words.specs.Words.{words}
use Rattle.session.specs.declared.kind.Kind.TheVariants.{Numbers}
use Rattle.session.specs.Lines.{bare}
use Rattle.session.specs.Sessions.{State, asking, ended, kind_of, numbers_of, reading, run_lines, with_order}

-- A text that has ended stays as it is, and nothing more is written, whatever follows.
abbrev pub Ended : Type 0
Ended = (s : State) (ls : List (List ℕ)) → s.phase ≡ ended → ((run_lines s ls).state ≡ s) × ((run_lines s ls).text ≡ [])

-- Behind a line of numbers that cannot be read nothing is answered: all that is written is its refusal, with the number of the line.
abbrev pub NotWhollyRead : Type 0
NotWhollyRead =
    (s : State) (l : List ℕ) (ls : List (List ℕ)) → s.phase ≡ reading → kind_of (words (bare l)) ≡ Numbers → numbers_of (words (bare l)) ≡ None
    → (run_lines s (l ∷ ls)).text ≡ refusal_bytes (Text s.at)

-- Nor behind numbers that come after the first question.
abbrev pub NumbersTooLate : Type 0
NumbersTooLate =
    (s : State) (l : List ℕ) (ls : List (List ℕ)) → s.phase ≡ asking → kind_of (words (bare l)) ≡ Numbers
    → (run_lines s (l ∷ ls)).text ≡ refusal_bytes (Text s.at)

-- No order changes the file, and only a line within 2^24 changes the line in force.
pub record Keeps (s : State) : Type 0 where
  pub file : (o : Option Order) → (with_order s o).state.numbers ≡ s.numbers
  pub unreadable : (with_order s None).state.line ≡ s.line
  pub question : (o : Option Order) → ((z : ℤ) → o ≢ Some (ForLine z)) → (with_order s o).state.line ≡ s.line
  pub far : (z : ℤ) → (unsigned_abs z ≤ 2 ^ 24 → ⊥) → (with_order s (Some (ForLine z))).state.line ≡ s.line
  pub near : (z : ℤ) → unsigned_abs z ≤ 2 ^ 24 → (with_order s (Some (ForLine z))).state.line ≡ z

abbrev pub OrdersKeep : Type 0
OrdersKeep = (s : State) → Keeps s
