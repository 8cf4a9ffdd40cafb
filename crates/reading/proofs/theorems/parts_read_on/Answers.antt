use Rattle.reading.proofs.Promised.{reads_on}
use Rattle.reading.proofs.theorems.parts_read_on.Goals as goal

pub returns : goal.returns
returns c = reads_on
