-- An almanac: spans one after the other, and the height in each of its ticks. Assumes nothing: these are definitions.
use Rattle.std.specs.Prelude.{ℕ, suc, ◌-◌, ◌*◌, ◌/◌, ◌%◌, ◌<◌, ◌≤◌, max, ℤ, pos, ◌+ℤ◌, ◌-ℤ◌, unsigned_abs}
use Rattle.std.specs.Int.Signed.{shr_z}
use Rattle.height.specs.declared.span.Span.{Span}
use Rattle.height.specs.Spans.{unit, height, slope}

-- How many ticks each span has, how many spans there are, and each of them. Ticks count from 0 through all spans: tick u of span i is tick i n + u.
pub record Almanac : Type 0 where
  pub fine : ℕ
  pub spans : ℕ
  pub span : ℕ → Span

abbrev pub ticks : Almanac → ℕ
ticks m = m.spans * m.fine

-- the height in a tick of the almanac, times n³
unfoldable pub height_at : Almanac → ℕ → ℤ
height_at m t = height m.fine (m.span (t / m.fine)) (t % m.fine)

-- A height h that is kept times n³, in whole thousandths: the nearest, and the upper one where two are as near. That is the floor of (2 h + n³) / 2 n³.
unfoldable pub rounded : (n : ℕ) (h : ℤ) → ℤ
rounded n h = shr_z (h +ℤ h +ℤ pos (unit n)) (2 * unit n)

-- Span i meets the next one: from its last tick to the first of the next the height changes by no more than the larger of their slopes.
abbrev pub Meets : Almanac → ℕ → Type 0
Meets m i =
    unsigned_abs (height m.fine (m.span (suc i)) 0 -ℤ height m.fine (m.span i) (m.fine - 1)) ≤ max (slope m.fine (m.span i)) (slope m.fine (m.span (suc i)))

-- Every span but the last meets the next one.
abbrev pub AllMeet : Almanac → Type 0
AllMeet m = (i : ℕ) → suc i < m.spans → Meets m i
