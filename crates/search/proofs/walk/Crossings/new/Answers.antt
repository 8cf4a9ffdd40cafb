use Rattle.std.proofs.Common.{arith}
use Rattle.search.proofs.Collecting.{left_all, left_of_none}
use Rattle.search.proofs.walk.Crossings.new.Goals as goal

pub returns-then-from-end-clause-whole : goal.returns-then-from-end-clause-whole
returns-then-from-end-clause-whole g c = left_of_none (g.S.Signal.course c.args.signal.now) c.args.from c.end-end.result (omega arith) c.end-end.ensures.value

pub returns-clause-whole : goal.returns-clause-whole
returns-clause-whole g c = left_all (g.S.Signal.course c.args.signal.now) c.args.from c.saturating_sub.result c.evaluate-before.result.till c.evaluate-before.result.holds c.saturating_sub.ensures (omega arith) c.evaluate-before.ensures.seen
