use Rattle.std.proofs.Common.{rules}
use Rattle.bridge.proofs.Zeros.{zero_given}
use Rattle.bridge.proofs.answer.SightingAnswerFromSighting.from.Goals as goal

pub returns-in-Hidden : goal.returns-in-Hidden
returns-in-Hidden c = let z = zero_given in search rules
