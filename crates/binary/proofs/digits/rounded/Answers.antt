use Rattle.std.proofs.Common.{lt_of_lt_of_le, lit≤}
use Rattle.binary.proofs.Coded.{size_fits, minus_fits, below_is, else_is, rounded_holds}
use Rattle.binary.proofs.digits.rounded.Goals as goal

pub overflow_cast-size : goal.overflow_cast-size
overflow_cast-size c = size_fits c.args.h c.unsigned_abs.result c.leading_digits-size.result c.ranges.h c.requires c.unsigned_abs.ensures.value c.leading_digits-size.ensures

pub overflow_sub-result : goal.overflow_sub-result
overflow_sub-result c = minus_fits c.args.h c.unsigned_abs.result c.leading_digits-size.result c.ranges.h c.requires c.unsigned_abs.ensures.value c.leading_digits-size.ensures

pub returns-then-h-lt0 : goal.returns-then-h-lt0
returns-then-h-lt0 c places few =
    rounded_holds places c.args.h _ few (lt_of_lt_of_le c.requires (lit≤ tt))
    (below_is c.args.h c.unsigned_abs.result c.leading_digits-size.result c.ranges.h c.requires c.unsigned_abs.ensures.value c.leading_digits-size.ensures c.if-h-lt0.true)

pub returns-else-h-lt0 : goal.returns-else-h-lt0
returns-else-h-lt0 c places few =
    rounded_holds places c.args.h _ few (lt_of_lt_of_le c.requires (lit≤ tt))
    (else_is c.args.h c.unsigned_abs.result c.leading_digits-size.result c.ranges.h c.requires c.unsigned_abs.ensures.value c.leading_digits-size.ensures c.if-h-lt0.false)
