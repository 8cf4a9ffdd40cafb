use Rattle.std.proofs.Common.{Some, None, rules}
use Rattle.almanac.proofs.Firsts.{by_number}
use Rattle.almanac.proofs.entry.first_of.Goals as goal

pub returns-in-Some : goal.returns-in-Some
returns-in-Some c = by_number (Some c.in-Some.tick) c.ranges.line (search rules) c.in-Ok.ensures

pub returns-in-None : goal.returns-in-None
returns-in-None c = by_number None c.ranges.line (search rules) c.in-Ok.ensures
