-- Orders as text: what a line's words ask for, and how an order is written. Assumes nothing: these are definitions.
use Rattle.std.specs.Prelude.{◌≡◌, ℕ, cond, List, [], ◌∷◌, ◌++◌, ℤ, Some, None, codes, Option}
use Rattle.std.specs.Fmt.{signed_decimal}
use Rattle.std.specs.Str.{bytes_eq}
use Rattle.crossing.specs.Texts.{event_text}
use Rattle.crossing.specs.declared.event.Event.TheVariants.{Above, Rise, Set}
use Rattle.text.specs.declared.order.Order.{Order}
use Rattle.text.specs.declared.order.Order.TheVariants.{Line, First, Height, Spans, Table, Tables}
use Rattle.words.specs.Numbers.{number_of}

-- a word and a number
abbrev pub keyed : List ℕ → ℤ → Option Order
keyed w z =
    cond (bytes_eq w (codes "line")) (Some (Line z))
    (cond (bytes_eq w (codes "above")) (Some (First Above z))
    (cond (bytes_eq w (codes "rise")) (Some (First Rise z))
    (cond (bytes_eq w (codes "set")) (Some (First Set z))
    (cond (bytes_eq w (codes "height")) (Some (Height z))
    (cond (bytes_eq w (codes "table")) (Some (Table z)) None)))))

-- a word and two numbers
abbrev pub keyed_twice : List ℕ → ℤ → ℤ → Option Order
keyed_twice w y z = cond (bytes_eq w (codes "spans")) (Some (Spans y z)) None

-- a word alone
abbrev pub keyed_alone : List ℕ → Option Order
keyed_alone w = cond (bytes_eq w (codes "table")) (Some Tables) None

-- a word and what may be numbers
abbrev pub with_one : List ℕ → Option ℤ → Option Order
with_one w None = None
with_one w (Some z) = keyed w z

abbrev pub with_two : List ℕ → Option ℤ → Option ℤ → Option Order
with_two w None o = None
with_two w (Some y) None = None
with_two w (Some y) (Some z) = keyed_twice w y z

-- what the words of a line ask for; none where they cannot be read
abbrev pub order_of : List (List ℕ) → Option Order
order_of [] = None
order_of (w ∷ []) = keyed_alone w
order_of (w ∷ v ∷ []) = with_one w (number_of v)
order_of (w ∷ v ∷ x ∷ []) = with_two w (number_of v) (number_of x)
order_of (w ∷ v ∷ x ∷ y ∷ ws) = None

-- how an order is written
abbrev pub order_bytes : Order → List ℕ
order_bytes (Line z) = codes "line " ++ signed_decimal z
order_bytes (First e z) = event_text e ++ (codes " " ++ signed_decimal z)
order_bytes (Height z) = codes "height " ++ signed_decimal z
order_bytes (Spans y z) = codes "spans " ++ (signed_decimal y ++ (codes " " ++ signed_decimal z))
order_bytes (Table z) = codes "table " ++ signed_decimal z
order_bytes Tables = codes "table"

-- the word that an order begins with, and its numbers
abbrev pub key : Order → List ℕ
key (Line z) = codes "line"
key (First e z) = event_text e
key (Height z) = codes "height"
key (Spans y z) = codes "spans"
key (Table z) = codes "table"
key Tables = codes "table"

abbrev pub values : Order → List ℤ
values (Line z) = z ∷ []
values (First e z) = z ∷ []
values (Height z) = z ∷ []
values (Spans y z) = y ∷ z ∷ []
values (Table z) = z ∷ []
values Tables = []

-- words that are these numbers, in turn
abbrev pub Are : List ℤ → List (List ℕ) → Type 0
Are [] [] = Unit {0}
Are [] (w ∷ ws) = ⊥
Are (z ∷ zs) [] = ⊥
Are (z ∷ zs) (w ∷ ws) = (number_of w ≡ Some z) × Are zs ws

-- words that say an order: its key and its numbers, no less and no more
abbrev pub Say : Order → List (List ℕ) → Type 0
Say o [] = ⊥
Say o (w ∷ ws) = (w ≡ key o) × Are (values o) ws
