use Rattle.std.proofs.Common.{rules, tests}
use Rattle.std.proofs.lemmas.Iterator.{first_from_Range}
use Rattle.height.specs.Almanacs.{Meets}
use Rattle.height.proofs.Joins.{first_apart}
use Rattle.height.proofs.join.first_gap.Goals as goal

pub returns : goal.returns
returns g c =
    let m = g.S.Source.almanac c.args.source.now in
    first_apart m c.spans-joins.result c.find.result c.spans-joins.ensures.value
    (first_from_Range _ _ _ c.find.result (λ i. Meets m i → ⊥) (λ i. Meets m i) c.find.ensures.ran (λ x q k. search (rules, tests)) (λ x q k. search (rules, tests)))
