use Rattle.std.proofs.Common.{◌≡◌, ℕ, ◌-◌, ◌<◌, ◌≤◌, false}
use Rattle.crossing.specs.Above.{over}
use Rattle.crossing.specs.Events.{happens}
use Rattle.sight.proofs.every.first_of_every.Given as goal

abbrev pub invariant-loop-tick : goal.invariant-loop-tick
invariant-loop-tick g l =
    (l.was ≡ over (g.S.Source.almanac l.source) l.level (l.tick - 1))
    × ((u : ℕ) → l.from ≤ u → u < l.tick → happens l.event (over (g.S.Source.almanac l.source) l.level) u ≡ false)
