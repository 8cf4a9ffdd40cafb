use Rattle.words.proofs.Backs.{read_back}
use Rattle.words.proofs.theorems.numbers_are_read_back.Goals as goal

pub returns : goal.returns
returns c = read_back
