-- What is evaluated in a tick of a body, and that it stays so over the ticks that are skipped. Assumes nothing.
use Rattle.std.proofs.Common.{◌≡◌, ℕ, zero, suc, ◌+◌, ◌-◌, ◌*◌, ◌/◌, ◌%◌, ◌<◌, ◌≤◌, min, ℤ, ◌-ℤ◌, nat_abs, sym, ap, ◌∙◌, subst, mod-lt, div-add-mod', arith}
use lib.Signed.{le_z}
use Rattle.height.specs.declared.span.Span.{Span}
use Rattle.height.specs.Almanacs.{Almanac, height_at, ticks}
use Rattle.height.specs.Spans.{height, slope}
use Rattle.height.proofs.Ticks.{height_in_span}
use Rattle.crossing.specs.Above.{over}
use Rattle.crossing.proofs.Sides.{may_skip}
use Rattle.search.specs.Walks.{Seen}
use Rattle.sight.specs.Sights.{skip, room, next, over_level}
use Rattle.sight.proofs.Skips.{skips_most, skip_some}

-- in the j-th tick after t, of those that may be skipped, it is over the level as in t
pub stays : (m : Almanac) (level : ℤ) (t most j : ℕ) → 0 < m.fine → most ≤ m.fine - 1 - t % m.fine → j ≤ skip (nat_abs (height_at m t -ℤ level)) (slope m.fine (m.span (t / m.fine))) most → over m level (t + j) ≡ over m level t
stays m level t most zero some within le = ap (over m level) (omega arith)
stays m level t most (suc j) some within le =
    subst (λ (v : ℕ). over m level v ≡ over m level t) there (far_enough ∙ ap (over m level) whole)
  where
    n : ℕ
    n = m.fine

    i : ℕ
    i = t / n

    k : ℕ
    k = skip (nat_abs (height_at m t -ℤ level)) (slope n (m.span i)) most

    whole : i * n + t % n ≡ t
    whole = div-add-mod' t n

    there : i * n + (t % n + suc j) ≡ t + suc j
    there = omega (arith, whole)

    here : height_at m t ≡ height n (m.span i) (t % n)
    here = ap (height_at m) (sym whole) ∙ height_in_span m i (t % n) (mod-lt t some)

    distance : nat_abs (height_at m t -ℤ level) ≡ nat_abs (height n (m.span i) (t % n) -ℤ level)
    distance = ap (λ (h : ℤ). nat_abs (h -ℤ level)) here

    largest : k * slope n (m.span i) < nat_abs (height_at m t -ℤ level)
    largest = skip_some (nat_abs (height_at m t -ℤ level)) (slope n (m.span i)) most (omega (arith, le))

    far_enough : over m level (i * n + (t % n + suc j)) ≡ over m level (i * n + t % n)
    far_enough =
        may_skip m level i (t % n) k (suc j) (omega (arith, mod-lt t some, (skips_most (nat_abs (height_at m t -ℤ level)) (slope n (m.span i)) most).within)) le (subst (λ (d : ℕ). k * slope n (m.span i) < d) distance largest)

-- the evaluation of a tick, from what the code worked out
pub sighted : (m : Almanac) (level h : ℤ) (end t n : ℕ) (s : Span) (d steep most k : ℕ) → 0 < n → n ≡ m.fine → s ≡ m.span (t / n) → h ≡ height_at m t → d ≡ nat_abs (h -ℤ level) → steep ≡ slope n s → most ≡ min (n - 1 - t % n) (end - 1 - t) → k ≡ skip d steep most → t < end → Seen (over_level m level end) t (le_z level h) (t + k + 1)
unfolding over next
sighted m level h end t n s d steep most k some n_is s-is h-is d-is steep-is most-is k-is lt =
    record {
      here = ap (le_z level) h-is;
      till_is = omega (arith, k_at);
      onward = omega arith;
      inside = omega (arith, k_at, within);
      same = λ u p q. (let e : t + (u - t) ≡ u = omega arith in subst (λ (v : ℕ). over m level v ≡ over m level t) e (stays m level t (room m end t) (u - t) (subst (λ (x : ℕ). 0 < x) n_is some) (omega arith) (omega (arith, k_at))));
    }
  where
    k_at : k ≡ skip (nat_abs (height_at m t -ℤ level)) (slope m.fine (m.span (t / m.fine))) (room m end t)
    k_at = k-is ∙ (λ i. skip (d_at i) (steep_at i) (most_at i))
      where
        d_at : d ≡ nat_abs (height_at m t -ℤ level)
        d_at = d-is ∙ ap (λ (x : ℤ). nat_abs (x -ℤ level)) h-is

        steep_at : steep ≡ slope m.fine (m.span (t / m.fine))
        steep_at = steep-is ∙ ap (slope n) s-is ∙ ap (λ (x : ℕ). slope x (m.span (t / x))) n_is

        most_at : most ≡ room m end t
        most_at = most-is ∙ ap (λ (x : ℕ). min (x - 1 - t % x) (end - 1 - t)) n_is

    within : skip (nat_abs (height_at m t -ℤ level)) (slope m.fine (m.span (t / m.fine))) (room m end t) ≤ room m end t
    within = (skips_most (nat_abs (height_at m t -ℤ level)) (slope m.fine (m.span (t / m.fine))) (room m end t)).within

-- A row that is said to end behind the body's last tick leaves no more room in a span than one that ends there: a span's own ticks all lie before that.
pub room_left : (m : Almanac) (end t n most : ℕ) → n ≡ 1024 → n ≡ m.fine → t < min end (ticks m) → most ≡ min (n - 1 - t % n) (end - 1 - t) → most ≡ min (n - 1 - t % n) (min end (ticks m) - 1 - t)
room_left m end t n most coarse fine inside is = go n coarse is
  where
    all : ticks m ≡ m.spans * 1024
    all = ap (λ (x : ℕ). m.spans * x) (sym fine ∙ coarse)

    go : (n : ℕ) → n ≡ 1024 → most ≡ min (n - 1 - t % n) (end - 1 - t) → most ≡ min (n - 1 - t % n) (min end (ticks m) - 1 - t)
    go n e q =
        subst (λ (x : ℕ). most ≡ min (x - 1 - t % x) (min end (ticks m) - 1 - t)) (sym e)
        (let p = subst (λ (x : ℕ). most ≡ min (x - 1 - t % x) (end - 1 - t)) e q in omega (arith, all, p, inside))
