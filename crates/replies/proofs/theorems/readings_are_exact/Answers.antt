use Rattle.replies.proofs.Readings.{readings_back}
use Rattle.replies.proofs.theorems.readings_are_exact.Goals as goal

pub returns : goal.returns
returns c = readings_back
