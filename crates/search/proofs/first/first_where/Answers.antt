use Rattle.std.proofs.Common.{◌+◌, sym, ◌∙◌, arith}
use Rattle.search.proofs.Steps.{pass_on, seen_not, agrees, after_more, walked_here}
use Rattle.search.proofs.first.first_where.Goals as goal

pub loop-tick-preserved : goal.loop-tick-preserved
loop-tick-preserved g c =
    let s = c.evaluate-seen.ensures.seen in (
      omega arith,
      omega arith,
      pass_on c.loop-tick.invariant.2 (seen_not (g.S.Signal.course c.args.signal.now) c.loop-tick.tick c.evaluate-seen.result.till c.evaluate-seen.result.holds c.args.wanted s c.if-seen-wanted.false),
      after_more (g.S.Signal.course c.args.signal.now).onto c.args.from (c.loop-tick.evaluations + 1) c.loop-tick.evaluations c.loop-tick.invariant.3 s.till_is (omega arith),
      omega arith,
      omega arith,
      omega arith,
      omega arith,
    )

pub returns-then-seen-wanted : goal.returns-then-seen-wanted
returns-then-seen-wanted g c =
    let s = c.evaluate-seen.ensures.seen in
    let is = agrees _ _ c.if-seen-wanted.true in
    record {
      first = (omega arith, omega arith, sym s.here ∙ is, c.loop-tick.invariant.2);
      walked = walked_here (g.S.Signal.course c.args.signal.now) _ c.args.from c.loop-tick.evaluations _ _ _ s is c.loop-tick.invariant.3 (omega arith);
      counted = omega arith;
      small = (omega arith, omega arith);
    }
