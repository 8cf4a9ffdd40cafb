use Rattle.reading.proofs.Promised.{goes_through, goes_through_span}
use Rattle.reading.proofs.theorems.cursors_go_through.Goals as goal

pub returns : goal.returns
returns c = (goes_through, goes_through_span)
