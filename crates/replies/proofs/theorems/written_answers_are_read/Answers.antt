use Rattle.replies.proofs.AnswersBack.{answers_back}
use Rattle.replies.proofs.theorems.written_answers_are_read.Goals as goal

pub returns : goal.returns
returns c = answers_back
