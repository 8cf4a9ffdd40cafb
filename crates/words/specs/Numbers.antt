-- A word as a whole number. Assumes nothing: these are definitions.
use Rattle.std.specs.Prelude.{ℕ, ◌+◌, ◌-◌, ◌*◌, Bool, cond, ◌&&◌, List, [], ◌∷◌, length, drop, ℤ, pos, neg_ℤ, Some, None, Option, ◌==◌, nat_lt, slice_index}
use Rattle.std.specs.Option.{option_map}
use Rattle.std.specs.Str.{all_ascii_digits}

-- the number that figures write, behind n
abbrev pub read_on : ℕ → List ℕ → ℕ
read_on n [] = n
read_on n (c ∷ cs) = read_on (10 * n + (c - 48)) cs

-- 1 to 18 figures
unfoldable pub figures_of : List ℕ → Option ℕ
figures_of ds = cond (nat_lt 0 (length ds) && (nat_lt (length ds) 19 && all_ascii_digits ds)) (Some (read_on 0 ds)) None

abbrev pub minus_first : List ℕ → Bool
minus_first bs = slice_index bs 0 == 45

-- an optional minus, and figures
unfoldable pub number_of : List ℕ → Option ℤ
number_of bs =
    cond (minus_first bs) (option_map (λ n. neg_ℤ (pos n)) (figures_of (drop 1 bs))) (option_map pos (figures_of bs))
