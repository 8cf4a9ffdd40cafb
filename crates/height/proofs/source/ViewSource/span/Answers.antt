use Rattle.height.proofs.Fours.{four_is, small}
use Rattle.height.proofs.source.ViewSource.span.Goals as goal

pub returns-clause-value : goal.returns-clause-value
returns-clause-value c =
    let v = c.args.self.now in
    four_is v.numbers.now c.args.at c.as_chunks.result.0.now c.as_chunks.ensures.front c.requires v.good

pub returns-clause-small : goal.returns-clause-small
returns-clause-small c =
    let v = c.args.self.now in
    rw (four_is v.numbers.now c.args.at c.as_chunks.result.0.now c.as_chunks.ensures.front c.requires v.good) (small v.numbers.now c.args.at c.requires v.good)
