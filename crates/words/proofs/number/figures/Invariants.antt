use Rattle.words.proofs.Figures.{Reading}
use Rattle.words.proofs.number.figures.Given as goal

abbrev pub invariant-loop-byte : goal.invariant-loop-byte
invariant-loop-byte l = Reading l.word l.byte-index l.n
