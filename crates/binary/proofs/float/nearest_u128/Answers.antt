use Rattle.std.proofs.Common.{◌/◌, pos, ◌∙◌, lit≤}
use lib.Ieee.{binary64, add, mul, of_int}
use Rattle.std.proofs.lemmas.Nat.{and_mask}
use Rattle.binary.proofs.Over.{parts}
use Rattle.binary.proofs.float.nearest_u128.Goals as goal

pub returns : goal.returns
returns c =
    let n = c.args.n in
    (λ i. add binary64 (mul binary64 (of_int binary64 (pos (n / 1099511627776))) (c.power.ensures i)) (of_int binary64 (pos (and_mask n 40 i)))) ∙ parts 40 n (lit≤ tt) c.requires
