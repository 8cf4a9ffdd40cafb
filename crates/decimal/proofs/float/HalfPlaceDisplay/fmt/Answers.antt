use Rattle.std.proofs.Common.{arith}
use Rattle.decimal.proofs.Floats.{error_fits}
use Rattle.decimal.proofs.float.HalfPlaceDisplay.fmt.Goals as goal

pub put_fraction-requires : goal.put_fraction-requires
put_fraction-requires g c =
    let n = c.args.self.now in
    error_fits g.row.PLACES n.numerator n.places n.size _ _ _ c.unsigned_abs.ensures.value c.leading_one.ensures (omega arith) (omega (arith, n.places))
