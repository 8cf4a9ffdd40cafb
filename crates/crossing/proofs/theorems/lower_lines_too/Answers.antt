use Rattle.crossing.proofs.Sides.{lower_line}
use Rattle.crossing.proofs.theorems.lower_lines_too.Goals as goal

pub returns : goal.returns
returns c = lower_line
