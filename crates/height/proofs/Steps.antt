-- How a height changes from tick to tick, and how large it gets, over n ticks a span. Assumes nothing.
use Rattle.std.proofs.Common.{◌≡◌, ℕ, zero, suc, ◌+◌, ◌-◌, ◌*◌, ◌/◌, ◌%◌, ◌^◌, ◌<◌, ◌≤◌, max, ◌⊎◌, ◌-ℤ◌, nat_abs, ap, ◌∙◌, subst, inl, inr, add-zero, add-suc, mul-le-mul_right, mod-lt, div-lt_iff_lt-mul, mul-le-mul, mul-le-mul_left, div-add-mod', arith}
use native.Mathlib.Decide.{dec_lt}
use lib.Arith.{digits_div, digits_mod}
use borrow.Author.Differences.{up, down, ints}
use Rattle.integers.proofs.Size.{size_parts, times_size_parts}
use Rattle.height.specs.declared.span.Span.{Span}
use Rattle.height.specs.Almanacs.{height_at}
use Rattle.height.specs.Promise.{Fits, Fits64, BySlope, AllTheWay}
use Rattle.height.specs.Spans.{unit, height, slope, Within}

-- the cubic over the positive or the negative parts of the four numbers
unfoldable pub cubic : (n a b c d u : ℕ) → ℕ
cubic n a b c d u = a * (n * (n * n)) + b * (u * (n * n)) + c * (u * (u * n)) + d * (u * (u * u))

-- a height is the difference of the two
pub height_is : (n : ℕ) (s : Span) (u : ℕ) → up (height n s u) + cubic n (down s.a) (down s.b) (down s.c) (down s.d) u ≡ down (height n s u) + cubic n (up s.a) (up s.b) (up s.c) (up s.d) u
unfolding height cubic
height_is n s u = omega (arith, ints)

-- it grows, by no more than its slope
cubic_step : (n a b c d u : ℕ) → u < n → (cubic n a b c d u ≤ cubic n a b c d (suc u)) × (cubic n a b c d (suc u) ≤ cubic n a b c d u + n * n * (b + (2 * c + 3 * d)))
unfolding cubic
cubic_step n a b c d u h = omega (arith, mul-le-mul_left (c * n) h, mul-le-mul_left d (mul-le-mul h h))

pub by_slope : BySlope
unfolding slope
by_slope n s u h =
    omega (arith, ints, times_size_parts (n * n) s.b, times_size_parts (n * n) s.c, times_size_parts (n * n) s.d, height_is n s u, height_is n s (suc u), cubic_step n (up s.a) (up s.b) (up s.c) (up s.d) u h, cubic_step n (down s.a) (down s.b) (down s.c) (down s.d) u h)

-- over k ticks of a span, by k slopes at most
pub drift : (n : ℕ) (s : Span) (u k : ℕ) → u + k ≤ n → nat_abs (height n s (u + k) -ℤ height n s u) ≤ k * slope n s
drift n s u zero h = rw (add-zero u) (omega (arith, ints))
drift n s u (suc k) h =
    let r = drift n s u k (omega arith) in
    let q = by_slope n s (u + k) (omega arith) in
    rw (add-suc u k) (omega (arith, ints))

cubic_le : (n u a b c d most : ℕ) → u ≤ n → a ≤ most → b ≤ most → c ≤ most → d ≤ most → cubic n a b c d u ≤ 4 * (most * (n * (n * n)))
unfolding cubic
cubic_le n u a b c d most h ha hb hc hd =
    omega (arith, mul-le-mul_right (n * (n * n)) ha, mul-le-mul hb (mul-le-mul_right (n * n) h), mul-le-mul hc (mul-le-mul h (mul-le-mul_right n h)), mul-le-mul hd (mul-le-mul h (mul-le-mul h h)))

-- a height is at most four times the largest number's
pub height_le : (n : ℕ) (s : Span) (u most : ℕ) → Within most s → u ≤ n → nat_abs (height n s u) ≤ 4 * (most * unit n)
height_le n s u most w h =
    let p = cubic_le n u (up s.a) (up s.b) (up s.c) (up s.d) most h (omega (arith, w.a, size_parts s.a)) (omega (arith, w.b, size_parts s.b)) (omega (arith, w.c, size_parts s.c)) (omega (arith, w.d, size_parts s.d)) in
    let q = cubic_le n u (down s.a) (down s.b) (down s.c) (down s.d) most h (omega (arith, w.a, size_parts s.a)) (omega (arith, w.b, size_parts s.b)) (omega (arith, w.c, size_parts s.c)) (omega (arith, w.d, size_parts s.d)) in
    omega (arith, ints, height_is n s u)

pub fits : Fits
fits n s u w h = omega (arith, height_le n s u (2 ^ 24) w h)

pub fits_64 : Fits64
fits_64 s u w h = omega (arith, fits 1024 s u w (omega arith))

-- the tick after t is the next of the same span, or the first of the next span
pub after : (n t : ℕ) → 0 < n →
    ((suc t / n ≡ t / n) × (suc t % n ≡ suc (t % n)) × (suc (t % n) < n))
    ⊎ ((suc t / n ≡ suc (t / n)) × (suc t % n ≡ 0) × (t % n ≡ n - 1))
after n t h = elim (dec_lt (suc (t % n)) n) [ yes k ↦ inl (inside k) | no k ↦ inr (across (omega (arith, mod-lt t h))) ]
  where
    whole : t / n * n + t % n ≡ t
    whole = div-add-mod' t n

    inside : suc (t % n) < n → (suc t / n ≡ t / n) × (suc t % n ≡ suc (t % n)) × (suc (t % n) < n)
    inside k =
        let e : suc t ≡ t / n * n + suc (t % n) = omega arith in
        (ap (λ x. x / n) e ∙ digits_div (t / n) k, ap (λ x. x % n) e ∙ digits_mod (t / n) k, k)

    across : suc (t % n) ≡ n → (suc t / n ≡ suc (t / n)) × (suc t % n ≡ 0) × (t % n ≡ n - 1)
    across k =
        let e : suc t ≡ suc (t / n) * n + 0 = omega arith in
        (ap (λ x. x / n) e ∙ digits_div (suc (t / n)) h, ap (λ x. x % n) e ∙ digits_mod (suc (t / n)) h, omega arith)

pub all_the_way : AllTheWay
unfolding height_at
all_the_way m t h meet l = elim (after n t h) [ inl p ↦ inside p | inr p ↦ across p ]
  where
    n : ℕ
    n = m.fine

    inside : (suc t / n ≡ t / n) × (suc t % n ≡ suc (t % n)) × (suc (t % n) < n) → nat_abs (height n (m.span (suc t / n)) (suc t % n) -ℤ height n (m.span (t / n)) (t % n)) ≤ max (slope n (m.span (t / n))) (slope n (m.span (suc t / n)))
    inside p = rw (p.0, p.1) (omega (arith, by_slope n (m.span (t / n)) (t % n) (omega (arith, p.2))))

    across : (suc t / n ≡ suc (t / n)) × (suc t % n ≡ 0) × (t % n ≡ n - 1) → nat_abs (height n (m.span (suc t / n)) (suc t % n) -ℤ height n (m.span (t / n)) (t % n)) ≤ max (slope n (m.span (t / n))) (slope n (m.span (suc t / n)))
    across p =
        rw (p.0, p.1, p.2) (meet (t / n) (subst (λ x. x < m.spans) p.0 ((div-lt_iff_lt-mul h).1 (omega arith))))
