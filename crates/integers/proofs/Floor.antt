-- Division that rounds down. Assumes nothing.
use Rattle.std.proofs.Common.{ℕ, ◌<◌, ℤ, pos, negsuc, ◌+ℤ◌, ◌*ℤ◌, ◌≤ℤ◌, ◌<ℤ◌, arith}
use lib.Signed.{shr_z}
use borrow.Author.Differences.{ints}
use Rattle.integers.proofs.Ring.{sum_times_is}

-- the floor of z / n is the one whole number q with q n ≤ z < (q + 1) n
pub floor_is : (z : ℤ) (n : ℕ) → 0 < n → ((shr_z z n *ℤ pos n) ≤ℤ z) × (z <ℤ ((shr_z z n +ℤ pos 1) *ℤ pos n))
floor_is (pos z) n h = omega (arith, ints)
floor_is (negsuc z) n h = omega (arith, ints, sum_times_is)
