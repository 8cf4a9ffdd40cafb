use Rattle.binary.proofs.Stands.{half_a_unit_stands}
use Rattle.binary.proofs.theorems.half_a_unit_stands.Goals as goal

pub returns : goal.returns
returns c = half_a_unit_stands
