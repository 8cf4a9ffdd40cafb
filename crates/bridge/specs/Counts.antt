-- In how many ticks a body is above a line. Assumes nothing: these are definitions.
use Rattle.std.specs.Prelude.{◌≡◌, ℕ, zero, suc, ◌+◌, ◌-◌, ◌*◌, Bool, cond, ◌⊎◌, List, ℤ}
use Rattle.almanac.specs.Refuses.{Taken}
use Rattle.crossing.specs.Above.{above}
use Rattle.height.specs.Almanacs.{ticks}
use Rattle.height.specs.Files.{almanac_in}
use Rattle.bridge.specs.declared.answer.CountAnswer.{CountAnswer}
use Rattle.bridge.specs.Answers.{RefusedAs, nothing}

-- in how many of the first n ticks f is so
unfoldable pub count_to : (f : ℕ → Bool) (n : ℕ) → ℕ
count_to f zero = 0
count_to f (suc n) = cond (f n) (suc (count_to f n)) (count_to f n)

-- in how many ticks of span i f is so
abbrev pub in_span : (f : ℕ → Bool) (i : ℕ) → ℕ
in_span f i = count_to f (i * 1024 + 1024) - count_to f (i * 1024)

-- The count; or the file or the line is refused, as for a question about tick 0.
abbrev pub CountSays : (xs : List ℤ) (line : ℤ) → CountAnswer → Type 0
CountSays xs line r =
    (Taken xs line 0 0 × (r ≡ record { refused = nothing; ticks = count_to (above (almanac_in 1024 xs) line) (ticks (almanac_in 1024 xs)) }))
    ⊎ (RefusedAs xs line 0 0 r.refused × (r.ticks ≡ 0))
