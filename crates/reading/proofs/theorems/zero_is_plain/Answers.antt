use Rattle.reading.proofs.Promised.{at_zero, on_the_line}
use Rattle.reading.proofs.theorems.zero_is_plain.Goals as goal

pub returns : goal.returns
returns c = (at_zero, on_the_line)
