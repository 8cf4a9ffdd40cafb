use Rattle.std.proofs.Common.{◌≡◌, min, pos, ◌*ℤ◌, ap, arith, ◌∙◌, w64, SFits, rules}
use Rattle.std.proofs.lemmas.Int.{to_z-of_z}
use Rattle.height.specs.Almanacs.{ticks}
use Rattle.height.specs.Files.{almanac_in}
use Rattle.height.specs.Views.{almanac_of}
use Rattle.almanac.specs.Doors.{numbers_of}
use Rattle.almanac.proofs.Firsts.{answered, handed}
use Rattle.almanac.proofs.almanac.Almanac.first_over.Goals as goal

pub returns : goal.returns
returns c =
    let m = almanac_in 1024 (numbers_of c.args.self.now) in
    let line = c.args.line.thousandths in
    let sight = c.new-sight.result in
    let found = c.first_event.result in
    let fo : SFits w64 c.level.result = search rules in
    let n = almanac_of sight.source in
    let n_is : n ≡ m = ap almanac_of c.new-sight.ensures.source in
    let stop_is : min sight.end (ticks n) ≡ min c.ticks.result (ticks m) = omega (arith, c.new-sight.ensures.stop, ap ticks n_is) in
    let level-is : sight.level ≡ line *ℤ pos 1073741824 = (simp to_z-of_z at c.new-sight.ensures.level) ∙ c.level.ensures in
    let p = handed m line c.args.event c.args.from found.tick c.into.result.tick found.evaluations c.into.result.evaluations c.into.ensures.0 c.into.ensures.1
    (answered m n line sight.level c.args.event c.args.from found.till found.evaluations (min sight.end (ticks n)) c.ticks.result found.tick n_is level-is c.ticks.ensures.value stop_is c.first_event.ensures.first c.first_event.ensures.walked) in
    (search rules, p.0, p.1)
