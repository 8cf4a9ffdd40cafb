use Rattle.std.proofs.Common.{refl, arith, rules}
use Rattle.std.proofs.Output.{has_written_append, has_written_of_eq}
use Rattle.decimal.proofs.Writing.{all_written, next_figure, none_left, rest_small}
use Rattle.decimal.proofs.figures.put_figures.Goals as goal

pub overflow_mul-tenfold : goal.overflow_mul-tenfold
overflow_mul-tenfold g c =
    let (done, is, wrote) = c.loop-left.invariant in
    omega (arith, rest_small _ _ _ _ is)

pub loop-left-preserved : goal.loop-left-preserved
loop-left-preserved g c =
    let (done, is, wrote) = c.loop-left.invariant in
    (_, next_figure _ _ done _ _ is (omega (arith, c.if-rest-eq0.false)) refl, λ plain. has_written_append _ _ _ _ _ _ (wrote plain) (search rules))

pub returns-then-rest-eq0 : goal.returns-then-rest-eq0
returns-then-rest-eq0 g c plain ok =
    let (done, is, wrote) = c.loop-left.invariant in
    has_written_of_eq _ _ _ _ _ (all_written _ _ _ _ is (omega (arith, c.if-rest-eq0.true))) (wrote plain)

pub returns-after-loop-left : goal.returns-after-loop-left
returns-after-loop-left g c plain ok =
    let (done, is, wrote) = c.loop-left.invariant in
    has_written_of_eq _ _ _ _ _ (none_left _ _ _ _ is (omega (arith, c.loop-left-test.false))) (wrote plain)
