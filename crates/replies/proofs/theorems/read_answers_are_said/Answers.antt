use Rattle.replies.proofs.AnswersTold.{answers_told}
use Rattle.replies.proofs.theorems.read_answers_are_said.Goals as goal

pub returns : goal.returns
returns c = answers_told
