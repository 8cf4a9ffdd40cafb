use Rattle.std.proofs.Common.{arith}
use Rattle.sight.proofs.Skips.{skip_on, skip_level, skip_by}
use Rattle.sight.proofs.sight.skip.Goals as goal

pub returns-then-distance-eq0 : goal.returns-then-distance-eq0
returns-then-distance-eq0 c =
    record { value = skip_on c.args.distance c.args.slope c.args.most c.if-distance-eq0.true; within = omega arith }

pub returns-then-slope-eq0 : goal.returns-then-slope-eq0
returns-then-slope-eq0 c =
    record { value = skip_level c.args.distance c.args.slope c.args.most c.if-distance-eq0.false c.if-slope-eq0.true; within = omega arith }

pub returns : goal.returns
returns c =
    record { value = skip_by c.args.distance c.args.slope c.args.most c.min.result c.if-distance-eq0.false c.if-slope-eq0.false c.min.ensures; within = omega arith }
