use Rattle.std.proofs.Common.{◌+◌, ◌-◌, ◌*◌, ap, ◌∙◌, arith, w64, SFits, rules, tests}
use Rattle.std.proofs.lemmas.Iterator.{YieldsList-from_map}
use Rattle.std.proofs.lemmas.Iterator.Consumers.{YieldsList-at, fits_by_from_yields_list, sum_by_from_yields_List}
use Rattle.height.specs.Files.{almanac_in}
use Rattle.height.specs.Views.{almanac_of}
use Rattle.reading.specs.Cursors.{almanac_under, tick_of}
use Rattle.bridge.proofs.Counting.{between_fits, count_between, moments_in, one_over}
use Rattle.bridge.proofs.count.ticks_in.Goals as goal

pub sum-requires-clause-fits : goal.sum-requires-clause-fits
sum-requires-clause-fits c =
    let s = c.new.result in
    let fl : SFits w64 c.args.level = c.ranges.level in
    fits_by_from_yields_list (one_over c.args.level) _ c.map.result _ (YieldsList-from_map _ (one_over c.args.level) (YieldsList-at c.map.ensures.source (moments_in s)) c.map.ensures.closure (λ x b q k. search (rules, tests)))
    (between_fits (almanac_under s.cursor) c.args.level (tick_of s.cursor) (1024 - s.cursor.at) (omega arith))

pub returns : goal.returns
returns c =
    let s = c.new.result in
    let fl : SFits w64 c.args.level = c.ranges.level in
    sum_by_from_yields_List (one_over c.args.level) _ c.map.result _ c.sum.ensures.ran (YieldsList-from_map _ (one_over c.args.level) (YieldsList-at c.map.ensures.source (moments_in s)) c.map.ensures.closure (λ x b q k. search (rules, tests)))
    ∙ count_between (almanac_of c.args.view) (almanac_under s.cursor) c.args.level (c.args.span * 1024) (tick_of s.cursor) (1024 - s.cursor.at) (c.args.span * 1024 + 1024)
    (ap (almanac_in 1024) c.new.ensures.file) c.new.ensures.tick (omega (arith, c.new.ensures.whole))
