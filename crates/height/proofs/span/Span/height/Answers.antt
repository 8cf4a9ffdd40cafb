use Rattle.std.proofs.Common.{◌≡◌, ℕ, ◌*◌, ◌^◌, ◌≤◌, pos, ◌+ℤ◌, ◌*ℤ◌, nat_abs, ap, ◌∙◌, arith, lit≤}
use Rattle.height.specs.Spans.{height}
use Rattle.height.proofs.Sums.{square_le, cube_le, product, sum_fits, sums_fit, sums_code, sums_size}
use Rattle.height.proofs.span.Span.height.Goals as goal

a-is : (c : goal.After-times-d) → (c.times-a.result ≡ c.args.self.a *ℤ pos 1073741824) × (nat_abs c.times-a.result ≤ 2 ^ 55)
a-is c = product c.args.self.a c.times-a.result 1073741824 c.requires.small.a (lit≤ tt) c.times-a.ensures

b-is : (c : goal.After-times-d) → (c.times-b.result ≡ c.args.self.b *ℤ pos (c.args.tick * 1048576)) × (nat_abs c.times-b.result ≤ 2 ^ 55)
b-is c = product c.args.self.b c.times-b.result (c.args.tick * 1048576) c.requires.small.b (omega (arith, c.requires.inside)) c.times-b.ensures

c-is : (c : goal.After-times-d) → (c.times-c.result ≡ c.args.self.c *ℤ pos (c.args.tick * c.args.tick * 1024)) × (nat_abs c.times-c.result ≤ 2 ^ 55)
c-is c =
    product c.args.self.c c.times-c.result (c.args.tick * c.args.tick * 1024) c.requires.small.c (omega (arith, square_le c.args.tick c.requires.inside)) c.times-c.ensures

d-is : (c : goal.After-times-d) → (c.times-d.result ≡ c.args.self.d *ℤ pos (c.args.tick * (c.args.tick * c.args.tick))) × (nat_abs c.times-d.result ≤ 2 ^ 55)
d-is c =
    product c.args.self.d c.times-d.result (c.args.tick * (c.args.tick * c.args.tick)) c.requires.small.d (omega (arith, cube_le c.args.tick c.requires.inside)) c.times-d.ensures

pub overflow_add-result : goal.overflow_add-result
overflow_add-result c = sum_fits c.times-a.result c.times-b.result (a-is c).1 (b-is c).1

pub overflow_add-result-2 : goal.overflow_add-result-2
overflow_add-result-2 c = sum_fits c.times-c.result c.times-d.result (c-is c).1 (d-is c).1

pub overflow_add-result-3 : goal.overflow_add-result-3
overflow_add-result-3 c = sums_fit c.times-a.result c.times-b.result c.times-c.result c.times-d.result (a-is c).1 (b-is c).1 (c-is c).1 (d-is c).1

-- the square's factor, as the definition has it
shared : (u : ℕ) → u * u * 1024 ≡ u * (u * 1024)
shared u = omega arith

value : (c : goal.After-times-d) → c.times-a.result +ℤ c.times-b.result +ℤ c.times-c.result +ℤ c.times-d.result ≡ height 1024 c.args.self c.args.tick
unfolding height
value c =
    let e = (c-is c).0 ∙ ap (λ (k : ℕ). c.args.self.c *ℤ pos k) (shared c.args.tick) in
    (λ i. (a-is c).0 i +ℤ (b-is c).0 i +ℤ e i +ℤ (d-is c).0 i)

pub returns-clause-value : goal.returns-clause-value
returns-clause-value c = sums_code c.times-a.result c.times-b.result c.times-c.result c.times-d.result (a-is c).1 (b-is c).1 (c-is c).1 (d-is c).1 ∙ value c

pub returns-clause-size : goal.returns-clause-size
returns-clause-size c =
    rw (sums_code c.times-a.result c.times-b.result c.times-c.result c.times-d.result (a-is c).1 (b-is c).1 (c-is c).1 (d-is c).1)
    (sums_size c.times-a.result c.times-b.result c.times-c.result c.times-d.result (a-is c).1 (b-is c).1 (c-is c).1 (d-is c).1)
