use Rattle.std.proofs.Common.{◌≡◌, ℕ, ◌+◌, ◌-◌, ◌*◌, ◌<◌, ◌≤◌, not}
use Rattle.search.specs.Walks.{after}
use Rattle.search.proofs.first.first_where.Given as goal

-- the walk came to `tick` by as many steps as ticks were evaluated, and none before it is as wanted
abbrev pub invariant-loop-tick : goal.invariant-loop-tick
invariant-loop-tick g l =
    (l.tick ≤ l.end)
    × (l.from ≤ l.tick)
    × ((u : ℕ) → l.from ≤ u → u < l.tick → (g.S.Signal.course l.signal).so u ≡ not l.wanted)
    × (after (g.S.Signal.course l.signal).onto l.evaluations l.from ≡ l.tick)
    × (l.meter.heights ≡ l.evaluations * g.S.Signal.cost l.signal)
    × (l.from + l.evaluations ≤ l.tick)
    × (l.meter.heights ≤ 4 * l.evaluations)
    × (l.end ≤ 268435456)

abbrev pub decreases-loop-tick : goal.decreases-loop-tick
decreases-loop-tick g l = l.end - l.tick
