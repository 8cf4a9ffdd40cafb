use Rattle.crossing.proofs.Sides.{may_skip}
use Rattle.crossing.proofs.theorems.ticks_may_be_skipped.Goals as goal

pub returns : goal.returns
returns c = may_skip
