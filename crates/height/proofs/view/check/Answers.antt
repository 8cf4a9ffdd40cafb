use Rattle.std.proofs.Common.{◌≡◌, length, ap, rules, tests}
use Rattle.std.proofs.lemmas.Bool.{both_ways}
use Rattle.height.specs.declared.refusal.Refusal.TheVariants.{File}
use Rattle.height.proofs.Places.{good_if, good_place, good_spans}
use Rattle.height.proofs.view.check.Goals as goal
use Rattle.height.proofs.view.check.Goals.{else-place-numbers-via-then-place-numbers+else-makes_spans, else-place-numbers-via-else-place-numbers}

pub returns-then-makes_spans : goal.returns-then-makes_spans
returns-then-makes_spans c =
    let spans = c.makes_spans.ensures.0 c.if-makes_spans.true in
    let whole : c.first_far-place.result ≡ length c.args.numbers.now = search rules in
    good_if c.args.numbers.now c.first_far-place.result c.first_far-place.ensures whole (search (rules, tests))

pub returns-else-place-numbers : goal.returns-else-place-numbers
returns-else-place-numbers c =
    let xs = c.args.numbers.now in
    let n = c.first_far-place.result in (
      λ good. elim c.else-place-numbers.branch [
        | else-place-numbers-via-then-place-numbers+else-makes_spans w ↦ (let all = good_place xs n c.first_far-place.ensures good in let spans = good_spans xs n all good in both_ways w.makes_spans.result (search rules) (w.makes_spans.ensures.1 (search (rules, tests))))
        | else-place-numbers-via-else-place-numbers w ↦ (let all = good_place xs n c.first_far-place.ensures good in search rules)
      ],
      ap File c.first_far-place.ensures,
    )
