-- A span's height in each of its ticks, and how steep it can be, over n, the number of ticks that a span has. Assumes nothing: these are definitions.
use Rattle.std.specs.Prelude.{ℕ, ◌+◌, ◌*◌, ◌≤◌, ℤ, pos, ◌+ℤ◌, ◌*ℤ◌, unsigned_abs}
use Rattle.height.specs.declared.span.Span.{Span}

-- What a height is multiplied by so that it is a whole number: n³, which is 2^30 at 1,024 ticks.
abbrev pub unit : ℕ → ℕ
unit n = n * (n * n)

-- The height in tick u, in thousandths of a degree, is a + b (u/n) + c (u/n)² + d (u/n)³. This is it times n³.
unfoldable pub height : (n : ℕ) (s : Span) (u : ℕ) → ℤ
height n s u = s.a *ℤ pos (n * (n * n)) +ℤ s.b *ℤ pos (u * (n * n)) +ℤ s.c *ℤ pos (u * (u * n)) +ℤ s.d *ℤ pos (u * (u * u))

-- How much the height, times n³, changes from one tick to the next at most.
unfoldable pub slope : (n : ℕ) (s : Span) → ℕ
slope n s = n * n * (unsigned_abs s.b + (2 * unsigned_abs s.c + 3 * unsigned_abs s.d))

-- All four numbers have at most this size.
pub record Within (most : ℕ) (s : Span) : Type 0 where
  pub a : unsigned_abs s.a ≤ most
  pub b : unsigned_abs s.b ≤ most
  pub c : unsigned_abs s.c ≤ most
  pub d : unsigned_abs s.d ≤ most
