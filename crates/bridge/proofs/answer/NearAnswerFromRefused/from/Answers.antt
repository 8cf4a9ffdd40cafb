use Rattle.std.proofs.Common.{rules}
use Rattle.bridge.proofs.Zeros.{zero_given}
use Rattle.bridge.proofs.answer.NearAnswerFromRefused.from.Goals as goal

pub returns : goal.returns
returns c = let z = zero_given in search rules
