use Rattle.std.proofs.Common.{arith}
use Rattle.bridge.proofs.Tables.{filling_end, filling_one, filling_start}
use Rattle.bridge.proofs.table.fill.Goals as goal

pub loop-crossing-init : goal.loop-crossing-init
loop-crossing-init g c =
    let m = g.S.Signal.course c.args.signal.now in
    let walk = c.new-walk in
    (walk.ensures.signal, filling_start m c.args.from walk.result.tick walk.result.evaluations c.args.into.now walk.ensures.came walk.ensures.whole)

pub loop-crossing-preserved : goal.loop-crossing-preserved
loop-crossing-preserved g c =
    let m = g.S.Signal.course c.args.signal.now in
    let was = c.loop-crossing.walk in
    let is = c.next.new.self in
    let step = rw c.loop-crossing.invariant.0 at c.in-Some.ensures.steps in (
      step.0,
      filling_one m c.args.from was.tick is.tick was.evaluations is.evaluations c.loop-crossing.entries c.in-Some.crossing c.loop-crossing.first c.or-first.result c.args.into.now c.loop-crossing.into c.put.new.into c.loop-crossing.invariant.1 step.1 c.put.ensures c.or-first.ensures,
    )

pub overflow_add-entries : goal.overflow_add-entries
overflow_add-entries g c =
    let step = rw c.loop-crossing.invariant.0 at c.in-Some.ensures.steps in
    omega (arith, c.next.new.self.short, c.loop-crossing.invariant.1.few, step.1.next.1)

pub returns : goal.returns
returns g c =
    let m = g.S.Signal.course c.args.signal.now in
    let was = c.loop-crossing.walk in
    let is = c.next.new.self in
    let step = rw c.loop-crossing.invariant.0 at c.in_default.ensures.steps in
    rw c.evaluations.ensures (filling_end m c.args.from was.tick is.tick was.evaluations is.evaluations c.loop-crossing.entries c.loop-crossing.first c.args.into.now c.loop-crossing.into c.loop-crossing.invariant.1 step.1)
