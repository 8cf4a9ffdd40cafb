use Rattle.crossing.proofs.Turns.{in_turn}
use Rattle.crossing.proofs.theorems.crossings_take_turns.Goals as goal

pub returns : goal.returns
returns c = in_turn
