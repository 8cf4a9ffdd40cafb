use Rattle.decimal.proofs.Floats.{written_near}
use Rattle.decimal.proofs.theorems.written_numbers_are_near.Goals as goal

pub returns : goal.returns
returns c = written_near
