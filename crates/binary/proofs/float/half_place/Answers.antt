use Rattle.std.proofs.Common.{ℕ, ◌^◌, ◌<◌, nat_abs, sym, ap, ◌∙◌, subst, lt_of_lt_of_le, lit≤, arith, rules, tests}
use mir.Syntax.{w128}
use Rattle.std.proofs.lemmas.Int.{to_z-of_z}
use Rattle.binary.proofs.Coded.{half_place_at, one_below}
use Rattle.binary.proofs.float.half_place.Goals as goal

pub nearest_u128-requires : goal.nearest_u128-requires
nearest_u128-requires g c =
    let n_is = c.unsigned_abs.ensures.value ∙ ap nat_abs (to_z-of_z w128 c.args.h c.ranges.h) in
    one_below c.unsigned_abs.result c.leading_one.result 80 (subst (λ (n : ℕ). n < 2 ^ 80) (sym n_is) c.requires.size) c.leading_one.ensures

pub returns : goal.returns
returns g c =
    let n_is = c.unsigned_abs.ensures.value ∙ ap nat_abs (to_z-of_z w128 c.args.h c.ranges.h) in
    let both = half_place_at g.row.PLACES c.args.h c.unsigned_abs.result c.leading_one.result c.nearest_u128.result c.power.result c.requires.places (lt_of_lt_of_le c.requires.size (lit≤ tt)) n_is c.leading_one.ensures c.nearest_u128.ensures (search (rules, tests, arith)) in
    record { value = both.0; within = both.1 }
