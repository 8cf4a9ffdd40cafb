use Rattle.std.proofs.Common.{sym, ◌∙◌, rules, tests}
use Rattle.std.proofs.lemmas.Iterator.{IsFirst-from_position, YieldsList-from_slice}
use Rattle.height.proofs.Places.{Far, Near, place_is}
use Rattle.height.proofs.view.first_far.Goals as goal

pub returns : goal.returns
returns c =
    let xs = c.args.numbers.now in
    c.unwrap_or.ensures ∙ sym (place_is xs c.position-first.result (IsFirst-from_position _ _ _ Far Near c.position-first.ensures.ran (YieldsList-from_slice xs c.iter.ensures.rest) (λ x q k. search (rules, tests)) (λ x q k. search (rules, tests))))
