use Rattle.std.proofs.Common.{ℕ, List}
use Rattle.std.specs.Fmt.{HasWritten, IsPlainFormatter}
use Rattle.decimal.specs.Figures.{figures}
use Rattle.decimal.proofs.Writing.{Writing}
use Rattle.decimal.proofs.figures.put_figures.Given as goal

abbrev pub invariant-loop-left : goal.invariant-loop-left
invariant-loop-left g l =
    (done : List ℕ) × Writing l.left l.rest done (figures l.places l.part)
    × (IsPlainFormatter l.initial.f → HasWritten g.W.Write.write_str_gives l.initial.f done l.f)
