use Rattle.std.proofs.Common.{◌*◌, sym, ap, ◌∙◌, arith, rules, tests}
use Rattle.std.proofs.lemmas.Iterator.{YieldsList-from_range, YieldsList-from_map}
use Rattle.std.proofs.lemmas.Iterator.Consumers.{fits_by_from_yields_list, sum_by_from_yields_List}
use Rattle.crossing.specs.Above.{over}
use Rattle.height.specs.Views.{almanac_of}
use Rattle.bridge.proofs.Counting.{count_all, count_fits}
use Rattle.bridge.specs.Counts.{in_span}
use Rattle.bridge.proofs.count.ticks_over.Goals as goal

pub sum-requires-clause-fits : goal.sum-requires-clause-fits
sum-requires-clause-fits c =
    let f = over (almanac_of c.args.view) c.args.level in
    fits_by_from_yields_list (in_span f) _ c.map.result _ (YieldsList-from_map _ (in_span f) (YieldsList-from_range 0 _ c.spans.result c.map.ensures.source (omega arith)) c.map.ensures.closure (λ x r q k. search (rules, tests)))
    (count_fits f c.spans.result c.spans.ensures.few)

pub returns : goal.returns
returns c =
    let f = over (almanac_of c.args.view) c.args.level in
    sum_by_from_yields_List (in_span f) _ c.map.result _ c.sum.ensures.ran (YieldsList-from_map _ (in_span f) (YieldsList-from_range 0 _ c.spans.result c.map.ensures.source (omega arith)) c.map.ensures.closure (λ x r q k. search (rules, tests)))
    ∙ count_all f c.spans.result _ (ap (λ n. n * 1024) (sym c.spans.ensures.value))
