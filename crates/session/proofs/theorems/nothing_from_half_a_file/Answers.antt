use Rattle.session.proofs.Promised.{ended_stays, not_wholly_read, numbers_too_late}
use Rattle.session.proofs.theorems.nothing_from_half_a_file.Goals as goal

pub returns : goal.returns
returns c = (ended_stays, not_wholly_read, numbers_too_late)
