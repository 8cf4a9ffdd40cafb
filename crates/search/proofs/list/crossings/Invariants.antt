use Rattle.std.proofs.Common.{◌≡◌, ◌-◌, ◌++◌, vec_items}
use Rattle.crossing.specs.Events.{crossings}
use Rattle.search.specs.Walks.{Came, left}
use Rattle.search.proofs.list.crossings.Given as goal

abbrev pub invariant-loop-crossing : goal.invariant-loop-crossing
invariant-loop-crossing g l =
    let m = g.S.Signal.course l.signal in
    (l.walk.signal.now ≡ l.signal)
    × (vec_items l.crossings ++ left m l.walk.tick ≡ crossings m.so l.from (m.stop - l.from))
    × Came m l.from l.walk.tick l.walk.evaluations
