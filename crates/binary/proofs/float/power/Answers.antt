use Rattle.binary.proofs.Coded.{power_at, power_no_nan}
use Rattle.binary.proofs.float.power.Goals as goal

pub float_from_bits-result : goal.float_from_bits-result
float_from_bits-result c = power_no_nan c.args.exponent c.requires

pub returns : goal.returns
returns c = power_at c.args.exponent c.requires
