use Rattle.std.proofs.Common.{ap, ◌∙◌, lt_of_lt_of_le, lit≤, arith, rules, tests}
use lib.Ieee.{binary64, of_int}
use mir.Syntax.{w128}
use Rattle.std.proofs.lemmas.Int.{to_z-of_z}
use Rattle.binary.proofs.Coded.{nearest_at}
use Rattle.binary.proofs.float.nearest.Goals as goal

pub returns : goal.returns
returns g c =
    nearest_at g.row.PLACES c.args.h c.nearest_i128.result c.power.result c.requires.places (lt_of_lt_of_le c.requires.size (lit≤ tt)) (c.nearest_i128.ensures ∙ ap (of_int binary64) (to_z-of_z w128 c.args.h c.ranges.h)) (search (rules, tests, arith))
