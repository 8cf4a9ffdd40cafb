use Rattle.std.proofs.Common.{ap, ◌∙◌, arith, w64, SFits, rules}
use Rattle.std.proofs.lemmas.Int.{to_z-of_z}
use Rattle.height.specs.Files.{span_at}
use Rattle.height.specs.Views.{almanac_of}
use Rattle.reading.specs.Differences.{onward}
use Rattle.height.proofs.Fours.{small}
use Rattle.reading.proofs.Moments.{moment_is}
use Rattle.reading.proofs.Rises.{onward_is, room}
use Rattle.reading.proofs.cursor.Cursor.give.Goals as goal

pub onward-self-requires : goal.onward-self-requires
onward-self-requires c =
    let v = c.args.self.now in
    rw v.stands (room (span_at v.view.numbers.now v.span) v.at (small v.view.numbers.now v.span v.inside v.view.good) c.requires)

pub invariant_of-self : goal.invariant_of-self
invariant_of-self c =
    let v = c.args.self.now in
    let e = c.onward-self.ensures in
    record {
      inside = v.inside;
      short = omega (arith, c.requires);
      stands = (λ i. record { height = e.height i; first = e.first i; second = e.second i; third = e.third i }) ∙ ap onward v.stands ∙ onward_is 1024 (span_at v.view.numbers.now v.span) v.at;
    }

pub returns-clause-value : goal.returns-clause-value
returns-clause-value c =
    let v = c.args.self.now in
    let f : SFits w64 v.differences.height = search rules in
    moment_is (almanac_of v.view) v.span v.at c.tick.result _ c.requires c.tick.ensures (to_z-of_z w64 v.differences.height f ∙ ap (λ r. r.height) v.stands)
