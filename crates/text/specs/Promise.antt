-- What is written is read as it was. Assumes nothing.
use Rattle.std.specs.Prelude.{◌≡◌, ℕ, ◌^◌, ◌<◌, List, ℤ, Some, unsigned_abs}
use Rattle.text.specs.Orders.{order_of, order_bytes, Say}
use Rattle.text.specs.declared.order.Order.{Order}
use Rattle.text.specs.declared.order.Order.TheVariants.{Line, First, Height, Spans, Table, Tables}
use Rattle.words.specs.Words.{words}

-- an order whose numbers have at most 18 figures
abbrev pub Short : ℤ → Type 0
Short z = unsigned_abs z < 10 ^ 18

abbrev pub ShortOrder : Order → Type 0
ShortOrder (Line z) = Short z
ShortOrder (First e z) = Short z
ShortOrder (Height z) = Short z
ShortOrder (Spans y z) = Short y × Short z
ShortOrder (Table z) = Short z
ShortOrder Tables = Unit {0}

abbrev pub OrdersBack : Type 0
OrdersBack = (o : Order) → ShortOrder o → order_of (words (order_bytes o)) ≡ Some o

-- And only the words of an order are read as it.
abbrev pub OrdersTold : Type 0
OrdersTold = (ws : List (List ℕ)) (o : Order) → order_of ws ≡ Some o → Say o ws
