-- The count of the ticks in which a body is over a level, span by span. Assumes nothing.
use Rattle.std.proofs.Common.{◌≡◌, ℕ, zero, suc, ◌+◌, ◌-◌, ◌*◌, ◌^◌, ◌<◌, ◌≤◌, Bool, true, false, cond, map, ℤ, ap, ◌∙◌, arith}
use Rattle.std.specs.List.{range_with_len, sum_by}
use Rattle.std.proofs.lemmas.List.Sums.{count_by-le-length, sum_by-cons}
use Rattle.std.proofs.lemmas.List.FromFn.{length-map-range_with_len}
use Rattle.std.proofs.lemmas.Iterator.{YieldsList}
use lib.Signed.{le_z}
use Rattle.crossing.specs.Above.{over}
use Rattle.height.specs.Almanacs.{Almanac, height_at}
use Rattle.reading.specs.Cursors.{StepsInSpan, moment, almanac_under, tick_of}
use Rattle.reading.specs.declared.stretch.Stretch.{Stretch}
use Rattle.reading.proofs.Promised.{goes_through_span}
use Rattle.reading.specs.declared.answer.Moment.{Moment}
use Rattle.bridge.specs.Counts.{count_to, in_span}

-- one tick more
count_one : (f : ℕ → Bool) (t u : ℕ) → u ≡ suc t → count_to f u ≡ count_to f t + cond (f t) 1 0
unfolding count_to
count_one f t u on = ap (count_to f) on ∙ go (f t) (count_to f t)
  where
    go : (b : Bool) (k : ℕ) → cond b (suc k) k ≡ k + cond b 1 0
    go true k = omega arith
    go false k = omega arith

-- no more than one for each tick
count_small : (f : ℕ → Bool) (n : ℕ) → count_to f n ≤ n
unfolding count_to
count_small f zero = omega arith
count_small f (suc n) = go (f n) (count_small f n)
  where
    go : (b : Bool) → count_to f n ≤ n → cond b (suc (count_to f n)) (count_to f n) ≤ suc n
    go true h = omega arith
    go false h = omega arith

-- the ticks that a stretch has still to give
pub moments_in : (s : Stretch) → YieldsList StepsInSpan (λ x. x) s (map (moment (almanac_under s.cursor)) (range_with_len (tick_of s.cursor) (1024 - s.cursor.at)))
moments_in s = record { runs = goes_through_span s }

-- 1 for a tick that is over the level
abbrev pub one_over : ℤ → Moment → ℕ
one_over level x = cond (le_z level x.height) 1 0

over_one : (m : Almanac) (level : ℤ) (t : ℕ) → count_to (over m level) (t + 1) ≡ count_to (over m level) t + cond (le_z level (height_at m t)) 1 0
unfolding over
over_one m level t = count_one (over m level) t (t + 1) (omega arith)

-- the ticks from one on, one after the other
count_on : (m : Almanac) (level : ℤ) (t n u : ℕ) → u ≡ t + n → count_to (over m level) u ≡ count_to (over m level) t + sum_by (one_over level) (map (moment m) (range_with_len t n))
count_on m level t zero u e = ap (count_to (over m level)) {y = t} (omega (arith, e)) ∙ omega arith
count_on m level t (suc n) u e = omega (
  arith,
  over_one m level t,
  count_on m level (t + 1) n u (omega (arith, e)),
  sum_by-cons (one_over level) (moment m t) (map (moment m) (range_with_len (t + 1) n)),
)

-- those of the ticks from one up to another that are over it
pub count_between : (m n : Almanac) (level : ℤ) (t u k e : ℕ) → n ≡ m → u ≡ t → e ≡ t + k → sum_by (one_over level) (map (moment n) (range_with_len u k)) ≡ count_to (over m level) e - count_to (over m level) t
count_between m n level t u k e same at end = omega (
  arith,
  count_on n level u k e (omega (arith, at, end)),
  ap (λ (x : Almanac). count_to (over x level) e) same,
  before,
)
  where
    before : count_to (over n level) u ≡ count_to (over m level) t
    before = λ i. count_to (over (same i) level) (at i)

pub between_fits : (n : Almanac) (level : ℤ) (u k : ℕ) → k ≤ 1024 → sum_by (one_over level) (map (moment n) (range_with_len u k)) < 2 ^ 64
between_fits n level u k few = omega (arith, count_by-le-length (λ (x : Moment). le_z level x.height) (map (moment n) (range_with_len u k)), length-map-range_with_len (moment n) u k)

grows : (f : ℕ → Bool) (t n : ℕ) → count_to f t ≤ count_to f (n + t)
grows f t zero = omega (arith, ap (count_to f) {x = 0 + t} {y = t} (omega arith))
grows f t (suc n) = omega (arith, grows f t n, count_one f (n + t) (suc n + t) (omega arith))

-- the counts of spans, one after the other
count_spans : (f : ℕ → Bool) (s n u : ℕ) → u ≡ (s + n) * 1024 → count_to f (s * 1024) + sum_by (in_span f) (range_with_len s n) ≡ count_to f u
count_spans f s zero u e = omega (arith, ap (count_to f) {x = s * 1024} {y = u} (omega (arith, e)))
count_spans f s (suc n) u e = omega (
  arith,
  grows f (s * 1024) 1024,
  ap (count_to f) {x = (s + 1) * 1024} {y = s * 1024 + 1024} (omega arith),
  ap (count_to f) {x = 1024 + s * 1024} {y = s * 1024 + 1024} (omega arith),
  count_spans f (s + 1) n u (omega (arith, e)),
  sum_by-cons (in_span f) s (range_with_len (s + 1) n),
)

-- all ticks are those of the first spans
pub count_all : (f : ℕ → Bool) (n u : ℕ) → u ≡ n * 1024 → sum_by (in_span f) (range_with_len 0 n) ≡ count_to f u
count_all f n u e = omega (arith, count_spans f 0 n u (omega (arith, e)), count_small f 0)

pub count_fits : (f : ℕ → Bool) (n : ℕ) → n ≤ 4096 → sum_by (in_span f) (range_with_len 0 n) < 2 ^ 64
count_fits f n few = omega (arith, count_all f n (n * 1024) (omega arith), count_small f (n * 1024), few)
