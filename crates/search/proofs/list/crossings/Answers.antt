use Rattle.std.proofs.Common.{◌-◌, vec_items, None, Some}
use Rattle.crossing.specs.Events.{crossings as crossings_of}
use Rattle.search.proofs.Collecting.{came_on, came_to_end, listed_all, listed_on}
use Rattle.search.proofs.list.crossings.Goals as goal

pub loop-crossing-preserved : goal.loop-crossing-preserved
loop-crossing-preserved g c =
    let m = g.S.Signal.course c.args.signal.now in
    let was = c.loop-crossing.walk in
    let is = c.next.new.self in
    let step = rw c.loop-crossing.invariant.0 at c.in-Some.ensures.steps in (
      step.0,
      (rw c.in_ok-push.ensures.items (listed_on m was.tick was.evaluations is.tick is.evaluations c.in-Some.crossing (vec_items c.loop-crossing.crossings) (crossings_of m.so c.args.from (m.stop - c.args.from)) c.loop-crossing.invariant.1 step.1)),
      came_on m c.args.from was.tick was.evaluations is.tick is.evaluations (Some c.in-Some.crossing) c.loop-crossing.invariant.2 step.1,
    )

pub returns : goal.returns
returns g c =
    let m = g.S.Signal.course c.args.signal.now in
    let was = c.loop-crossing.walk in
    let is = c.next.new.self in
    let step = rw c.loop-crossing.invariant.0 at c.in_default.ensures.steps in (
      listed_all m was.tick was.evaluations is.tick is.evaluations (vec_items c.loop-crossing.crossings) (crossings_of m.so c.args.from (m.stop - c.args.from)) c.loop-crossing.invariant.1 step.1,
      (rw c.evaluations.ensures (came_to_end m c.args.from is.tick is.evaluations step.1.next.1 (came_on m c.args.from was.tick was.evaluations is.tick is.evaluations None c.loop-crossing.invariant.2 step.1))),
    )
