use Rattle.height.proofs.Rounds.{rounded_code}
use Rattle.height.proofs.round.rounded.Goals as goal

pub returns : goal.returns
returns c = rounded_code c.args.height c.ranges.height
