-- What is answered to an order, as text. Assumes nothing: these are definitions.
use Rattle.std.specs.Prelude.{◌≡◌, ℕ, zero, suc, ◌+◌, ◌-◌, ◌*◌, ◌/◌, ◌%◌, min, Bool, true, false, cond, ◌&&◌, ◌==◌, List, [], ◌++◌, length, take, drop, ℤ, pos, negsuc, ◌*ℤ◌, Some, None, Ok, Err, Option, Result, nat_le, nat_lt}
use Rattle.almanac.specs.declared.ask.Fault.{Fault}
use Rattle.almanac.specs.declared.ask.Fault.TheVariants.{Refused, Memory}
use Rattle.crossing.specs.Above.{above}
use Rattle.crossing.specs.Events.{crossings, happens}
use Rattle.height.specs.Almanacs.{Almanac, ticks, height_at, rounded}
use Rattle.height.specs.Customary.{small_almanac}
use Rattle.height.specs.Files.{almanac_in, first_beyond}
use Rattle.height.specs.declared.refusal.Refusal.{Refusal}
use Rattle.height.specs.declared.refusal.Refusal.TheVariants.{File, Tick}
use Rattle.text.specs.Answers.{height_bytes, part_bytes, refusal_bytes, table_bytes, tick_bytes}
use Rattle.text.specs.declared.order.Order.{Order}
use Rattle.text.specs.declared.order.Order.TheVariants.{Line, First, Height, Spans, Table, Tables}

-- what is written, and whether it is a refusal
pub record Reply : Type 0 where
  pub text : List ℕ
  pub refuses : Bool

abbrev pub says : List ℕ → Reply
says bs = record { text = bs; refuses = false }

abbrev pub refuses_as : Refusal → Reply
refuses_as e = record { text = refusal_bytes e; refuses = true }

-- a whole number as a tick of the file: none where it is not in the file
abbrev pub tick_in : Almanac → ℤ → Option ℕ
tick_in m (pos t) = cond (nat_lt t (ticks m)) (Some t) None
tick_in m (negsuc t) = None

-- an answer for a tick of the file; any other number is refused, and is its own place
abbrev pub for_tick : ℤ → (ℕ → List ℕ) → Option ℕ → Reply
for_tick z answer (Some t) = says (answer t)
for_tick z answer None = refuses_as (Tick z)

abbrev pub at_tick : Almanac → ℤ → (ℕ → List ℕ) → Reply
at_tick m z answer = for_tick z answer (tick_in m z)

-- the first tick of k, from t on, in which f is so: every tick is looked at
unfoldable pub first_tick : (f : ℕ → Bool) (t k : ℕ) → Option ℕ
first_tick f t zero = None
first_tick f t (suc k) = cond (f t) (Some t) (first_tick f (suc t) k)

-- a whole number that is not below 0
abbrev pub natural : ℤ → Option ℕ
natural (pos n) = Some n
natural (negsuc n) = None

-- the numbers of the spans from a up to b; none where that is no part of the file
abbrev pub part_by : List ℤ → (a b : Option ℕ) → List ℤ
part_by xs (Some a) (Some b) = cond (nat_le a b && nat_le b (length xs / 4)) (take (4 * (b - a)) (drop (4 * a) xs)) []
part_by xs (Some a) None = []
part_by xs None o = []

abbrev pub part_in : List ℤ → (a b : ℤ) → List ℤ
part_in xs a b = part_by xs (natural a) (natural b)

-- the answer over a good file, with the line in force; `line` itself answers nothing
abbrev pub answer : List ℤ → (line : ℤ) → Order → Reply
answer xs line (Line z) = says []
answer xs line (First e z) =
    at_tick (almanac_in 1024 xs) z (λ t. tick_bytes (first_tick (happens e (above (almanac_in 1024 xs) line)) t (ticks (almanac_in 1024 xs) - t)))
answer xs line (Height z) = at_tick (almanac_in 1024 xs) z (λ t. height_bytes (rounded 1024 (height_at (almanac_in 1024 xs) t)))
answer xs line (Spans a b) = says (part_bytes (part_in xs a b))
answer xs line (Table z) =
    at_tick (almanac_in 1024 xs) (pos 1024 *ℤ z) (λ t. table_bytes (crossings (above (almanac_in 1024 xs) line) t (min (t + 1024) (ticks (almanac_in 1024 xs)) - t)))
answer xs line Tables = says (table_bytes (crossings (above (almanac_in 1024 xs) line) 0 (ticks (almanac_in 1024 xs))))

-- whether a file is good: four numbers a span, 1 to 4,096 spans, every number within 2^24
abbrev pub good_file : List ℤ → Bool
good_file xs = length xs % 4 == 0 && small_almanac (almanac_in 1024 xs)

-- the answer over any file: one that is not good refuses every question
abbrev pub reply : List ℤ → (line : ℤ) → Order → Reply
reply xs line o = cond (good_file xs) (answer xs line o) (refuses_as (File (first_beyond xs)))

-- An order is answered: the reply's text is at the end of what was written. Or it is refused, and nothing is written; or there was no memory for it.
abbrev pub Replies : (was : List ℕ) → Reply → (is : List ℕ) → Result (Unit {0}) Fault → Type 0
Replies was r is (Ok u) = (r.refuses ≡ false) × (is ≡ was ++ r.text)
Replies was r is (Err (Refused e)) = (r ≡ refuses_as e) × (is ≡ was)
Replies was r is (Err (Memory e)) = Unit {0}
