use Rattle.std.proofs.Common.{◌≡◌, min, List, ℤ, pos, ◌*ℤ◌, ap, ◌∙◌, arith, w64, SFits, rules}
use Rattle.std.proofs.lemmas.Int.{to_z-of_z}
use Rattle.almanac.specs.Refuses.{Taken}
use Rattle.height.specs.Almanacs.{ticks}
use Rattle.height.specs.Files.{almanac_in}
use Rattle.height.specs.Views.{almanac_of}
use Rattle.bridge.proofs.Making.{made}
use Rattle.bridge.proofs.table.table_in.Goals as goal

pub returns : goal.returns
returns c =
    let sight = c.new-sight.result in
    let view = c.in_ok-view.ensures in
    let fl : SFits w64 c.args.line = c.ranges.line in
    let fo : SFits w64 c.level.result = search rules in
    let line = simp to_z-of_z at c.in_ok-line.ensures in
    let taken : Taken c.args.spans.now c.args.line c.args.from 0 = search rules in
    let level-is : sight.level ≡ c.args.line *ℤ pos 1073741824 = (simp to_z-of_z at c.new-sight.ensures.level) ∙ c.level.ensures ∙ ap (λ (z : ℤ). z *ℤ pos 1073741824) line.1 in
    let n = almanac_of sight.source in
    let n_is : n ≡ almanac_in 1024 c.args.spans.now = ap almanac_of c.new-sight.ensures.source ∙ ap (almanac_in 1024) view.1 in
    let stop_is : min sight.end (ticks n) ≡ min c.args.end (ticks (almanac_in 1024 c.args.spans.now)) = omega (arith, c.new-sight.ensures.stop, ap (λ (ys : List ℤ). ticks (almanac_in 1024 ys)) view.1, ap ticks n_is) in
    made c.listing_is_whole.ensures c.args.spans.now c.args.line sight.level c.args.from c.args.end (min sight.end (ticks n)) n c.args.into.now c.fill.new.into c.fill.result taken
    n_is level-is stop_is c.fill.ensures
