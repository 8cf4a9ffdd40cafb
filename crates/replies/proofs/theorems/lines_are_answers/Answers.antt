use Rattle.replies.proofs.Lines.{lines_said}
use Rattle.replies.proofs.theorems.lines_are_answers.Goals as goal

pub returns : goal.returns
returns c = lines_said
