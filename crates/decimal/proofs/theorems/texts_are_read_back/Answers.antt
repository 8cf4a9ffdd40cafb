use Rattle.decimal.proofs.Back.{reads_back}
use Rattle.decimal.proofs.theorems.texts_are_read_back.Goals as goal

pub returns : goal.returns
returns c = reads_back
