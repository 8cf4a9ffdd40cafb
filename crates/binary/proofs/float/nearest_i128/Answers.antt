use Rattle.binary.proofs.Coded.{negated_at}
use Rattle.binary.proofs.float.nearest_i128.Goals as goal

pub returns-then-h-lt0 : goal.returns-then-h-lt0
returns-then-h-lt0 c =
    negated_at c.args.h c.unsigned_abs.result c.nearest_u128-size.result c.ranges.h c.requires c.unsigned_abs.ensures.value c.nearest_u128-size.ensures c.if-h-lt0.true
