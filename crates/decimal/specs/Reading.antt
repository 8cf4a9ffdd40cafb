-- What a text of decimal figures says. Assumes nothing: these are definitions.
use Rattle.std.specs.Prelude.{ℕ, suc, ◌+◌, ◌-◌, ◌*◌, Bool, true, false, cond, List, [], ◌∷◌, Some, None, Option, ◌==◌}
use Rattle.std.specs.Char.{is_ascii_digit}

-- figures / 10 ^ places, with a minus or without
pub record Said : Type 0 where
  pub minus : Bool
  pub figures : ℕ
  pub places : ℕ

-- the number that figures write, behind n
abbrev pub read_on : ℕ → List ℕ → ℕ
read_on n [] = n
read_on n (c ∷ cs) = read_on (10 * n + (c - 48)) cs

-- figures behind the point, of which p were read, and all figures so far write n
unfoldable pub behind : Bool → ℕ → ℕ → List ℕ → Option Said
behind m n p [] = Some (record { minus = m; figures = n; places = p })
behind m n p (c ∷ cs) = cond (is_ascii_digit c) (behind m (10 * n + (c - 48)) (suc p) cs) None

-- a point has a figure behind it
unfoldable pub point : Bool → ℕ → List ℕ → Option Said
point m n [] = None
point m n (c ∷ cs) = behind m n 0 (c ∷ cs)

-- figures before the point, which write n so far
unfoldable pub before : Bool → ℕ → List ℕ → Option Said
before m n [] = Some (record { minus = m; figures = n; places = 0 })
before m n (c ∷ cs) = cond (is_ascii_digit c) (before m (10 * n + (c - 48)) cs) (cond (c == 46) (point m n cs) None)

-- a number begins with a figure
unfoldable pub unsigned : Bool → List ℕ → Option Said
unsigned m [] = None
unsigned m (c ∷ cs) = cond (is_ascii_digit c) (before m 0 (c ∷ cs)) None

-- an optional minus, figures, and optionally a point and figures; None for any other text
unfoldable pub number_in : List ℕ → Option Said
number_in [] = None
number_in (c ∷ cs) = cond (c == 45) (unsigned true cs) (unsigned false (c ∷ cs))
