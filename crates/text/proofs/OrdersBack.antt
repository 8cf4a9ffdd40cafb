-- Orders, as they are written, are read as they were. Assumes nothing.
use Rattle.std.proofs.Common.{◌≡◌, ℕ, ◌<◌, true, List, [], ◌∷◌, ◌++◌, length, ℤ, Some, codes, Option, refl, ap, ◌∙◌, ap₂, lit<}
use Rattle.std.specs.Fmt.{signed_decimal}
use Rattle.crossing.specs.declared.event.Event.TheVariants.{Above, Rise, Set}
use Rattle.text.specs.Orders.{order_of, keyed, with_one, with_two}
use Rattle.text.specs.Promise.{Short, OrdersBack}
use Rattle.text.specs.declared.order.Order.{Order}
use Rattle.text.specs.declared.order.Order.TheVariants.{Line, First, Height, Spans, Table, Tables}
use Rattle.words.specs.Words.{words}
use Rattle.words.proofs.Backs.{read_back}
use Rattle.words.proofs.Solid.{solid, key_front, key_last, number_front, number_last}

-- a word, a blank and a number
known : (w : List ℕ) (z : ℤ) (o : Option Order) → solid w ≡ true → 0 < length w → Short z → keyed w z ≡ o → order_of (words (w ++ (32 ∷ signed_decimal z))) ≡ o
known w z o s h small e =
    ap order_of (key_front w (signed_decimal z) (signed_decimal z ∷ []) s h (number_last z small)) ∙ ap (with_one w) (read_back z small) ∙ e

pub orders_back : OrdersBack
orders_back (Line z) small = known (codes "line") z (Some (Line z)) refl (lit< tt) small refl
orders_back (First Above z) small = known (codes "above") z (Some (First Above z)) refl (lit< tt) small refl
orders_back (First Rise z) small = known (codes "rise") z (Some (First Rise z)) refl (lit< tt) small refl
orders_back (First Set z) small = known (codes "set") z (Some (First Set z)) refl (lit< tt) small refl
orders_back (Height z) small = known (codes "height") z (Some (Height z)) refl (lit< tt) small refl
orders_back (Spans y z) small =
    ap order_of (key_front (codes "spans") _ _ refl (lit< tt) (number_front y _ _ small.0 (number_last z small.1)))
    ∙ ap₂ (with_two (codes "spans")) (read_back y small.0) (read_back z small.1)
orders_back (Table z) small = known (codes "table") z (Some (Table z)) refl (lit< tt) small refl
orders_back Tables small = ap order_of (key_last (codes "table") refl (lit< tt))
