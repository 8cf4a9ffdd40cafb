-- A whole run, from text to text. Assumes nothing: these are definitions.
use Rattle.std.specs.Prelude.{ℕ, ◌+◌, ◌-◌, ◌^◌, min, Bool, true, false, cond, ◌||◌, List, [], ◌∷◌, ◌++◌, ℤ, pos, nat_abs, Some, None, Option, ◌==◌, nat_le, slice_index}
use Rattle.std.specs.Int.{saturate_to_bits}
use Rattle.std.specs.Char.{is_ascii_digit}
use Rattle.height.specs.declared.refusal.Refusal.TheVariants.{Line, Text}
use Rattle.text.specs.Orders.{order_of}
use Rattle.text.specs.declared.order.Order.{Order}
use Rattle.text.specs.declared.order.Order.TheVariants.{Line as ForLine, First, Height, Spans, Table, Tables}
use Rattle.words.specs.Numbers.{number_of}
use Rattle.words.specs.Words.{words}
use Rattle.session.specs.declared.kind.Kind.{Kind}
use Rattle.session.specs.declared.kind.Kind.TheVariants.{Nothing, Numbers, Question}
use Rattle.session.specs.Lines.{lines, bare}
use Rattle.session.specs.Replies.{Reply, refuses_as, reply}

-- Numbers are read first, then questions are answered; a text that cannot go on has ended.
pub data Phase : Type 0 where
  reading asking ended : Phase

-- The numbers so far, the line in force, the phase, the number of the next line, and whether anything was refused.
pub record State : Type 0 where
  pub numbers : List ℤ
  pub line : ℤ
  pub phase : Phase
  pub at : ℕ
  pub refused : Bool

abbrev pub start : State
start = record { numbers = []; line = pos 0; phase = reading; at = 0; refused = false }

-- what a line is: nothing, numbers or a question, by the first mark of its first word
abbrev pub kind_of_mark : ℕ → Kind
kind_of_mark b = cond (b == 35) Nothing (cond (is_ascii_digit b || b == 45) Numbers Question)

abbrev pub kind_of : List (List ℕ) → Kind
kind_of [] = Nothing
kind_of (w ∷ ws) = kind_of_mark (slice_index w 0)

-- a number as the file keeps it: one that is too large for 32 bits is the largest or the least of these, which is beyond 2^24 too
abbrev pub kept : ℤ → ℤ
kept z = saturate_to_bits 31 z

-- the numbers of a line's words; none where a word is no number
abbrev pub and_more : Option ℤ → Option (List ℤ) → Option (List ℤ)
and_more None o = None
and_more (Some z) None = None
and_more (Some z) (Some zs) = Some (kept z ∷ zs)

unfoldable pub numbers_of : List (List ℕ) → Option (List ℤ)
numbers_of [] = Some []
numbers_of (w ∷ ws) = and_more (number_of w) (numbers_of ws)

-- the number of the next line
abbrev pub next_line : ℕ → ℕ
next_line at = min (at + 1) (2 ^ 64 - 1)

-- what a line leads to, and what is written for it
pub record Step : Type 0 where
  pub state : State
  pub text : List ℕ

-- nothing is written
abbrev pub quietly : State → Step
quietly s = record { state = s; text = [] }

abbrev pub passed : State → State
passed s = record { numbers = s.numbers; line = s.line; phase = s.phase; at = next_line s.at; refused = s.refused }

-- a text that cannot go on: its line is refused, and nothing more is read
abbrev pub ends : State → Step
ends s =
    record {
      state = record { numbers = s.numbers; line = s.line; phase = ended; at = next_line s.at; refused = true };
      text = (refuses_as (Text s.at)).text;
    }

-- numbers before the first question
abbrev pub with_numbers : State → Option (List ℤ) → Step
with_numbers s None = ends s
with_numbers s (Some zs) =
    quietly (record { numbers = s.numbers ++ zs; line = s.line; phase = s.phase; at = next_line s.at; refused = s.refused })

-- a line of numbers: behind the first question it ends the text
abbrev pub numbers_in : Phase → State → List (List ℕ) → Step
numbers_in reading s ws = with_numbers s (numbers_of ws)
numbers_in asking s ws = ends s
numbers_in ended s ws = ends s

abbrev pub numbers_step : State → List (List ℕ) → Step
numbers_step s ws = numbers_in s.phase s ws

-- the first question ends the numbers
abbrev pub begun_phase : Phase → Phase
begun_phase reading = asking
begun_phase asking = asking
begun_phase ended = ended

abbrev pub begun : State → State
begun s = record { numbers = s.numbers; line = s.line; phase = begun_phase s.phase; at = s.at; refused = s.refused }

-- a question that is answered or refused; the line in force stays
abbrev pub with_reply : State → Reply → Step
with_reply s r =
    record {
      state = record { numbers = s.numbers; line = s.line; phase = asking; at = next_line s.at; refused = s.refused || r.refuses };
      text = r.text;
    }

-- a new line, if it is within 2^24
abbrev pub with_line : State → ℤ → Step
with_line s z =
    cond (nat_le (nat_abs z) (2 ^ 24)) (quietly (record { numbers = s.numbers; line = z; phase = asking; at = next_line s.at; refused = s.refused }))
    (with_reply s (refuses_as Line))

abbrev pub with_order : State → Option Order → Step
with_order s None = with_reply s (refuses_as (Text s.at))
with_order s (Some (ForLine z)) = with_line s z
with_order s (Some (First e z)) = with_reply s (reply s.numbers s.line (First e z))
with_order s (Some (Height z)) = with_reply s (reply s.numbers s.line (Height z))
with_order s (Some (Spans a b)) = with_reply s (reply s.numbers s.line (Spans a b))
with_order s (Some (Table z)) = with_reply s (reply s.numbers s.line (Table z))
with_order s (Some Tables) = with_reply s (reply s.numbers s.line Tables)

-- a line of each kind
abbrev pub by_kind : Kind → State → List (List ℕ) → Step
by_kind Nothing s ws = quietly (passed s)
by_kind Numbers s ws = numbers_step s ws
by_kind Question s ws = with_order s (order_of ws)

-- nothing is read of a text that has ended
abbrev pub unless_ended : Phase → State → Step → Step
unless_ended reading s p = p
unless_ended asking s p = p
unless_ended ended s p = quietly s

-- one line of the text
abbrev pub step : State → List ℕ → Step
step s raw = unless_ended s.phase s (by_kind (kind_of (words (bare raw))) s (words (bare raw)))

-- all lines, one after the other
unfoldable pub run_lines : State → List (List ℕ) → Step
run_lines s [] = quietly s
run_lines s (l ∷ ls) =
    record { state = (run_lines (step s l).state ls).state; text = (step s l).text ++ (run_lines (step s l).state ls).text }

-- A whole run: what is written for a text, and whether anything was refused.
abbrev pub run : List ℕ → Step
run text = run_lines start (lines text)
