use Rattle.std.proofs.Common.{arith}
use lib.Ieee.Digits.{size-le}
use Rattle.binary.proofs.Coded.{one_at}
use Rattle.binary.proofs.digits.leading_one.Goals as goal

pub overflow_shl-result : goal.overflow_shl-result
overflow_shl-result c = omega (arith, size-le c.args.n 128 c.ranges.n.fits)

pub returns-else-digits-eq0 : goal.returns-else-digits-eq0
returns-else-digits-eq0 c = one_at c.args.n c.digits_in-digits.result c.ranges.n.fits c.digits_in-digits.ensures c.if-digits-eq0.false
