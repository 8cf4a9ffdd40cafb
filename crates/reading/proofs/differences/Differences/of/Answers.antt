use Rattle.std.proofs.Common.{◌≡◌, ◌+◌, ◌*◌, ◌^◌, ◌≤◌, pos, ◌+ℤ◌, ◌*ℤ◌, nat_abs, sym, ◌∙◌, arith, lit≤}
use Rattle.height.proofs.Sums.{square_le, product, sum_fits}
use Rattle.reading.proofs.Rises.{first_is, second_is, third_is}
use Rattle.reading.proofs.Sums.{two_code, three_fit, three_code, alone}
use Rattle.reading.proofs.differences.Differences.of.Goals as goal

b-is : (c : goal.After-height-height) → (c.times-b.result ≡ c.args.span.b *ℤ pos 1048576) × (nat_abs c.times-b.result ≤ 2 ^ 55)
b-is c = product c.args.span.b c.times-b.result 1048576 c.requires.small.b (lit≤ tt) c.times-b.ensures

c-is : (c : goal.After-height-height) → (c.times-c.result ≡ c.args.span.c *ℤ pos (1024 * (2 * c.args.tick + 1))) × (nat_abs c.times-c.result ≤ 2 ^ 55)
c-is c = product c.args.span.c c.times-c.result (1024 * (2 * c.args.tick + 1)) c.requires.small.c (omega (arith, c.requires.inside)) c.times-c.ensures

d-is : (c : goal.After-height-height) → (c.times-d.result ≡ c.args.span.d *ℤ pos (3 * (c.args.tick * c.args.tick) + 3 * c.args.tick + 1)) × (nat_abs c.times-d.result ≤ 2 ^ 55)
d-is c =
    product c.args.span.d c.times-d.result (3 * (c.args.tick * c.args.tick) + 3 * c.args.tick + 1) c.requires.small.d (omega (arith, square_le c.args.tick c.requires.inside)) c.times-d.ensures

bend-is : (c : goal.After-height-height) → (c.times-bend.result ≡ c.args.span.c *ℤ pos 2048) × (nat_abs c.times-bend.result ≤ 2 ^ 55)
bend-is c = product c.args.span.c c.times-bend.result 2048 c.requires.small.c (lit≤ tt) c.times-bend.ensures

turn_is : (c : goal.After-height-height) → (c.times-turn.result ≡ c.args.span.d *ℤ pos (6 * (c.args.tick + 1))) × (nat_abs c.times-turn.result ≤ 2 ^ 55)
turn_is c = product c.args.span.d c.times-turn.result (6 * (c.args.tick + 1)) c.requires.small.d (omega (arith, c.requires.inside)) c.times-turn.ensures

third_of : (c : goal.After-height-height) → (c.times-third.result ≡ c.args.span.d *ℤ pos 6) × (nat_abs c.times-third.result ≤ 2 ^ 55)
third_of c = product c.args.span.d c.times-third.result 6 c.requires.small.d (lit≤ tt) c.times-third.ensures

pub overflow_add-result : goal.overflow_add-result
overflow_add-result c = sum_fits c.times-b.result c.times-c.result (b-is c).1 (c-is c).1

pub overflow_add-result-2 : goal.overflow_add-result-2
overflow_add-result-2 c = three_fit c.times-b.result c.times-c.result c.times-d.result (b-is c).1 (c-is c).1 (d-is c).1

pub overflow_add-result-3 : goal.overflow_add-result-3
overflow_add-result-3 c = sum_fits c.times-bend.result c.times-turn.result (bend-is c).1 (turn_is c).1

pub returns : goal.returns
returns c =
    let s = c.args.span in
    let u = c.args.tick in
    let first_at = three_code c.times-b.result c.times-c.result c.times-d.result (b-is c).1 (c-is c).1 (d-is c).1 ∙ (λ i. (b-is c).0 i +ℤ (c-is c).0 i +ℤ (d-is c).0 i) ∙ sym (first_is 1024 s u) in
    let second_at = two_code c.times-bend.result c.times-turn.result (bend-is c).1 (turn_is c).1 ∙ (λ i. (bend-is c).0 i +ℤ (turn_is c).0 i) ∙ sym (second_is 1024 s u) in
    let height_at = alone c.height-height.result c.height-height.ensures.size ∙ c.height-height.ensures.value in
    let third_at = alone c.times-third.result (omega (arith, (third_of c).1)) ∙ (third_of c).0 ∙ sym (third_is 1024 s u) in
    (λ i. record { height = height_at i; first = first_at i; second = second_at i; third = third_at i })
