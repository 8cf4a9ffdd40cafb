use Rattle.std.proofs.Common.{refl}
use Rattle.search.proofs.Collecting.{gives_none, gives_one}
use Rattle.search.proofs.walk.CrossingsIterator.next.Goals as goal

pub returns-in_err-tick-clause-steps : goal.returns-in_err-tick-clause-steps
returns-in_err-tick-clause-steps g c =
    let s = c.args.self.now in
    let found = c.first_where-found in
    rw c.from_residual.ensures (refl, gives_none (g.S.Signal.course s.signal.now) s.tick found.result.till s.evaluations found.result.evaluations s.above found.result.tick s.inside s.before c.in_err-tick.was found.ensures.first found.ensures.walked)

pub returns-clause-steps : goal.returns-clause-steps
returns-clause-steps g c =
    let s = c.args.self.now in
    let found = c.first_where-found in
    (refl, gives_one (g.S.Signal.course s.signal.now) s.tick c.in_ok-tick.tick found.result.till s.evaluations found.result.evaluations s.above found.result.tick s.before c.in_ok-tick.was found.ensures.first found.ensures.walked)
