use Rattle.std.proofs.Common.{arith}
use Rattle.decimal.proofs.Floats.{float_fits, rounded_fits}
use Rattle.decimal.proofs.float.NearestDisplay.fmt.Goals as goal

pub rounded-requires : goal.rounded-requires
rounded-requires g c =
    let n = c.args.self.now in
    float_fits g.row.PLACES n.numerator n.places n.size

pub put_exact-requires : goal.put_exact-requires
put_exact-requires g c =
    let n = c.args.self.now in
    rounded_fits g.row.PLACES n.numerator n.places n.size _ c.rounded.result (c.rounded.ensures 0 (omega arith)).bound (omega arith) (omega (arith, n.places))
