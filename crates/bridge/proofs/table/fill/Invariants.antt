use Rattle.std.proofs.Common.{◌≡◌}
use Rattle.bridge.proofs.Tables.{Filling}
use Rattle.bridge.proofs.table.fill.Given as goal

abbrev pub invariant-loop-crossing : goal.invariant-loop-crossing
invariant-loop-crossing g l =
    (l.walk.signal.now ≡ l.signal)
    × Filling (g.S.Signal.course l.signal) l.from l.walk.tick l.initial.into l.into l.walk.evaluations l.entries l.first
