-- The differences of a height in closed form, over n ticks a span, and how large they get. Assumes nothing.
use Rattle.std.proofs.Common.{◌≡◌, ℕ, ◌+◌, ◌*◌, ◌^◌, ◌<◌, ◌≤◌, ℤ, pos, ◌+ℤ◌, ◌-ℤ◌, ◌*ℤ◌, nat_abs, sym, ap, ◌∙◌, mul-le-mul, mul-le-mul_left, arith}
use borrow.Author.Differences.{up, down, ints}
use Rattle.height.specs.declared.span.Span.{Span}
use Rattle.height.specs.Spans.{height, Within}
use Rattle.height.proofs.Steps.{cubic, height_is, height_le}
use Rattle.integers.proofs.Size.{size_times_le}
use Rattle.reading.specs.Differences.{first, second, third, differences_of, onward, Room}

-- ---- over the positive or the negative parts of the four numbers: what the cubic gains in a tick, what that gains, and what that does
unfoldable rise : (n b c d u : ℕ) → ℕ
rise n b c d u = b * (n * n) + c * (n * (2 * u + 1)) + d * (3 * (u * u) + 3 * u + 1)

unfoldable bend : (n c d u : ℕ) → ℕ
bend n c d u = c * (2 * n) + d * (6 * (u + 1))

cubic_step : (n a b c d u : ℕ) → cubic n a b c d (u + 1) ≡ cubic n a b c d u + rise n b c d u
unfolding cubic rise
cubic_step n a b c d u = omega arith

rise_step : (n b c d u : ℕ) → rise n b c d (u + 1) ≡ rise n b c d u + bend n c d u
unfolding rise bend
rise_step n b c d u = omega arith

bend_step : (n c d u : ℕ) → bend n c d (u + 1) ≡ bend n c d u + d * 6
unfolding bend
bend_step n c d u = omega arith

-- ---- a difference is that of the two parts
module _ (n : ℕ) (s : Span) (u : ℕ) where
  first_parts : up (first n s u) + rise n (down s.b) (down s.c) (down s.d) u ≡ down (first n s u) + rise n (up s.b) (up s.c) (up s.d) u
  unfolding first
  first_parts =
      omega (arith, ints, height_is n s u, height_is n s (u + 1), cubic_step n (up s.a) (up s.b) (up s.c) (up s.d) u, cubic_step n (down s.a) (down s.b) (down s.c) (down s.d) u)

module _ (n : ℕ) (s : Span) (u : ℕ) where
  second_parts : up (second n s u) + bend n (down s.c) (down s.d) u ≡ down (second n s u) + bend n (up s.c) (up s.d) u
  unfolding second
  second_parts =
      omega (arith, ints, first_parts n s u, first_parts n s (u + 1), rise_step n (up s.b) (up s.c) (up s.d) u, rise_step n (down s.b) (down s.c) (down s.d) u)

-- ---- in closed form
module _ (n : ℕ) (s : Span) (u : ℕ) where
  pub first_is : first n s u ≡ s.b *ℤ pos (n * n) +ℤ s.c *ℤ pos (n * (2 * u + 1)) +ℤ s.d *ℤ pos (3 * (u * u) + 3 * u + 1)
  unfolding rise
  first_is = omega (arith, ints, first_parts n s u)

  pub second_is : second n s u ≡ s.c *ℤ pos (2 * n) +ℤ s.d *ℤ pos (6 * (u + 1))
  unfolding bend
  second_is = omega (arith, ints, second_parts n s u)

  pub third_is : third n s u ≡ s.d *ℤ pos 6
  unfolding third
  third_is = omega (arith, ints, second_parts n s u, second_parts n s (u + 1), bend_step n (up s.c) (up s.d) u, bend_step n (down s.c) (down s.d) u)

-- ---- how large they get, up to the tick that would follow the last one
module _ (n : ℕ) (s : Span) (u most : ℕ) (w : Within most s) (h : u ≤ n) where
  pub first_le : nat_abs (first n s u) ≤ most * (n * n) + most * (n * (2 * n + 1)) + most * (3 * (n * n) + 3 * n + 1)
  first_le =
      let b = size_times_le s.b (pos (n * n)) most (n * n) w.b (omega arith) in
      let c = size_times_le s.c (pos (n * (2 * u + 1))) most (n * (2 * n + 1)) w.c (mul-le-mul_left n (omega arith)) in
      let d = size_times_le s.d (pos (3 * (u * u) + 3 * u + 1)) most (3 * (n * n) + 3 * n + 1) w.d (omega (arith, mul-le-mul h h)) in
      rw (first_is n s u) (omega (arith, ints))

  pub second_le : nat_abs (second n s u) ≤ most * (2 * n) + most * (6 * (n + 1))
  second_le =
      let c = size_times_le s.c (pos (2 * n)) most (2 * n) w.c (omega arith) in
      let d = size_times_le s.d (pos (6 * (u + 1))) most (6 * (n + 1)) w.d (omega arith) in
      rw (second_is n s u) (omega (arith, ints))

-- ---- one tick on, each by an addition; the third stays
back : (x y : ℤ) → x +ℤ (y -ℤ x) ≡ y
back x y = omega (arith, ints)

module _ (n : ℕ) (s : Span) (u : ℕ) where
  pub height_on : height n s u +ℤ first n s u ≡ height n s (u + 1)
  unfolding first
  height_on = back (height n s u) (height n s (u + 1))

  pub first_on : first n s u +ℤ second n s u ≡ first n s (u + 1)
  unfolding second
  first_on = back (first n s u) (first n s (u + 1))

  pub second_on : second n s u +ℤ third n s u ≡ second n s (u + 1)
  unfolding third
  second_on = back (second n s u) (second n s (u + 1))

  pub third_on : third n s u ≡ third n s (u + 1)
  third_on = third_is n s u ∙ sym (third_is n s (u + 1))

  pub onward_is : onward (differences_of n s u) ≡ differences_of n s (u + 1)
  onward_is = (λ i. record { height = height_on i; first = first_on i; second = second_on i; third = third_on i })

-- at 1,024 ticks the three sums have room
pub room : (s : Span) (u : ℕ) → Within (2 ^ 25) s → u < 1024 → Room (differences_of 1024 s u)
room s u w h =
    record {
      height = omega (arith, ap nat_abs (height_on 1024 s u), height_le 1024 s (u + 1) (2 ^ 25) w (omega arith));
      first = omega (arith, ap nat_abs (first_on 1024 s u), first_le 1024 s (u + 1) (2 ^ 25) w (omega arith));
      second = omega (arith, ap nat_abs (second_on 1024 s u), second_le 1024 s (u + 1) (2 ^ 25) w (omega arith));
    }
