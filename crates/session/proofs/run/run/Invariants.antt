use Rattle.std.proofs.Common.{string_bytes}
use Rattle.session.specs.Held.{state_of}
use Rattle.session.proofs.Cutting.{Running}
use Rattle.session.proofs.run.run.Given as goal

abbrev pub invariant-loop-line : goal.invariant-loop-line
invariant-loop-line l = Running l.text (state_of l.session) (string_bytes l.out) l.line-iterator.rest.now × (goal.iterator-loop-line).can_next l.line-iterator × (goal.iterator-loop-line).is_finite l.line-iterator
