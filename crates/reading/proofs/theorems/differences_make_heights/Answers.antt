use Rattle.reading.proofs.Promised.{of_a_cubic, by_additions, have_room}
use Rattle.reading.proofs.theorems.differences_make_heights.Goals as goal

pub returns : goal.returns
returns c = (of_a_cubic, by_additions, have_room)
