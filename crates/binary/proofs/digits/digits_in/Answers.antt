use Rattle.binary.proofs.Leading.{size_is}
use Rattle.binary.proofs.digits.digits_in.Goals as goal

pub returns : goal.returns
returns c = size_is 128 c.args.n c.ranges.n.fits
