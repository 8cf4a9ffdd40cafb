-- The binary64 number of a height of 0 is the one that Default gives. Assumes nothing.
use Rattle.std.proofs.Common.{◌≡◌, pos, sym, arith}
use Rattle.std.specs.Prelude.{from_bits}
use lib.Ieee.{binary64}
use Rattle.binary.proofs.Stands.{zero_stands}
use Rattle.binary.specs.Nearest.{nearest_over}

pub zero_given : from_bits binary64 0 ≡ nearest_over 30 (pos 0)
unfolding lib.Ieee.of_bits
zero_given = sym (zero_stands 30 (omega arith)).0
