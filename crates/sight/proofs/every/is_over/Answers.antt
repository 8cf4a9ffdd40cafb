use Rattle.std.proofs.Common.{ap, w64, SFits, rules}
use lib.Signed.{le_z}
use Rattle.std.proofs.lemmas.Int.{to_z-of_z}
use Rattle.crossing.specs.Above.{over}
use Rattle.sight.proofs.every.is_over.Goals as goal

pub returns : goal.returns
unfolding over
returns g c =
    let fh : SFits w64 c.height.result = search rules in
    let fl : SFits w64 c.args.level = c.ranges.level in
    simp to_z-of_z (ap (le_z c.args.level) c.height.ensures.value)
