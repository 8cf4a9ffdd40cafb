-- The statements of specs/Promise.antt hold. Assumes nothing.
use Rattle.std.proofs.Common.{◌≡◌, ℕ, zero, suc, ◌+◌, ◌-◌, ◌*◌, ◌/◌, ◌%◌, ◌^◌, ◌<◌, ◌≤◌, List, ◌∷◌, map, length, get_or, take, drop, ℤ, pos, nat_abs, ◌<ℤ◌, Some, None, sym, refl, ap, ◌∙◌, subst, lt_of_le_of_lt, mod-lt, div-lt_iff_lt-mul, div-add-mod', add-one, arith, lit<, lit≤, length-drop, length-take, get_or-drop, get_or-take}
use Rattle.std.specs.List.{range_with_len}
use Rattle.std.proofs.lemmas.List.FromFn.{length-map-range_with_len}
use Rattle.std.proofs.lemmas.Iterator.{YieldsList}
use Rattle.std.proofs.lemmas.Iterator.Consumers.{YieldsList-from_shown}
use Rattle.binary.specs.Nearest.{nearest_over}
use Rattle.binary.proofs.Stands.{in_order_stands, half_a_unit_stands, zero_stands}
use Rattle.height.specs.declared.span.Span.{Span}
use Rattle.height.specs.Almanacs.{Almanac, ticks, height_at}
use Rattle.height.specs.Files.{almanac_in, span_at}
use Rattle.height.specs.Spans.{height}
use Rattle.height.proofs.Steps.{height_le}
use Rattle.height.proofs.Ticks.{height_in_span}
use Rattle.integers.proofs.Size.{size_times_le}
use Rattle.reading.specs.declared.answer.Moment.{Moment}
use Rattle.reading.specs.declared.answer.Sighting.TheVariants.{Seen, Hidden}
use Rattle.reading.specs.declared.cursor.Cursor.{Cursor}
use Rattle.reading.specs.declared.stretch.Stretch.{Stretch}
use Rattle.reading.specs.Cursors.{Steps, StepsInSpan, almanac_under, moment, tick_of}
use Rattle.reading.specs.Differences.{differences_of, onward}
use Rattle.reading.specs.Parts.{InFile, PartOf}
use Rattle.reading.specs.Promise.{Small, InOrder, HalfAUnit, AtZero, OnTheLine, OfACubic, ByAdditions, HaveRoom, GoesThrough, GoesThroughSpan, ReadsOn}
use Rattle.reading.proofs.Rises.{first_is, second_is, third_is, first_le, second_le, onward_is}

-- ---- binary64 numbers

-- a height of a small almanac is well within the range of the statements on binary64 numbers
far : (m : Almanac) (t : ℕ) → Small m → t < ticks m → nat_abs (height_at m t) < 2 ^ 500
unfolding height_at
far m t s h =
    let some : 0 < m.fine = omega (arith, s.coarse) in
    let p = height_le m.fine (m.span (t / m.fine)) (t % m.fine) (2 ^ 25) (s.spans (t / m.fine) ((div-lt_iff_lt-mul some).1 h)) (omega (arith, mod-lt t some)) in
    lt_of_le_of_lt (subst (λ (n : ℕ). nat_abs (height m.fine (m.span (t / m.fine)) (t % m.fine)) ≤ 4 * (2 ^ 25 * (n * (n * n)))) s.coarse p) (lit< tt)

pub in_order : InOrder
in_order m t u p q s h k near-t near-u l =
    rw (near-t.height, near-u.height) (in_order_stands 30 (height_at m u) (lit≤ tt) (far m u s k) (height_at m t) (far m t s h) l)

pub half_a_unit : HalfAUnit
half_a_unit m t p s h near-t = rw (near-t.height, near-t.error) (half_a_unit_stands 30 (height_at m t) (lit≤ tt) (far m t s h))

pub at_zero : AtZero
at_zero p near-0 = (near-0.height ∙ (zero_stands 30 (lit≤ tt)).0, near-0.error ∙ (zero_stands 30 (lit≤ tt)).1)

pub on_the_line : OnTheLine
on_the_line h line (Seen x) s e = ap Seen (s.1 ∙ ap (nearest_over 30) e ∙ (zero_stands 30 (lit≤ tt)).0)
on_the_line h line Hidden s e = absurd (subst (λ (z : ℤ). z <ℤ pos 0) e s).lt

-- ---- differences
pub of_a_cubic : OfACubic
of_a_cubic n s u = (first_is n s u, second_is n s u, third_is n s u)

pub by_additions : ByAdditions
by_additions n s zero = refl
by_additions n s (suc u) = ap onward (by_additions n s u) ∙ onward_is n s u ∙ ap (differences_of n s) (add-one u)

pub have_room : HaveRoom
have_room s u w h = (
  omega (arith, first_le 1024 s u (2 ^ 25) w h),
  omega (arith, second_le 1024 s u (2 ^ 25) w h),
  rw (third_is 1024 s u) (omega (arith, size_times_le s.d (pos 6) (2 ^ 25) 6 w.d (lit≤ tt))),
)

-- ---- cursors

-- the tick that was given, and those after it
shown_more : (m k : Almanac) (x : Moment) (t u n j : ℕ) → x ≡ moment m t → k ≡ m → u ≡ t + 1 → n ≡ suc j → map (moment m) (range_with_len t n) ≡ x ∷ map (moment k) (range_with_len u j)
shown_more m k x t u n j x-is k-is u-is n_is =
    ap (λ (i : ℕ). map (moment m) (range_with_len t i)) n_is ∙ (λ i. sym x-is i ∷ map (moment (sym k-is i)) (range_with_len (sym u-is i) j))

left_of : Cursor → List Moment
left_of c = map (moment (almanac_under c)) (range_with_len (tick_of c) (ticks (almanac_under c) - tick_of c))

pub moments_of : (c : Cursor) → YieldsList Steps (λ x. x) c (map (moment (almanac_under c)) (range_with_len (tick_of c) (ticks (almanac_under c) - tick_of c)))
unfolding left_of
moments_of c = YieldsList-from_shown Steps (λ x. x) left_of at_end before_end c
  where
    at_end : (c e : Cursor) → Steps c None e → length (left_of c) ≡ 0
    at_end c e s = length-map-range_with_len (moment (almanac_under c)) (tick_of c) (ticks (almanac_under c) - tick_of c) ∙ omega (arith, s.0)

    before_end : (c : Cursor) (x : Moment) (e : Cursor) → Steps c (Some x) e → left_of c ≡ x ∷ left_of e
    before_end c x e s =
        let same = ap (almanac_in 1024) s.2.file in
        shown_more (almanac_under c) (almanac_under e) x (tick_of c) (tick_of e) (ticks (almanac_under c) - tick_of c) (ticks (almanac_under e) - tick_of e)
        s.1 same s.2.tick (omega (arith, s.0, s.2.tick, ap ticks same))

pub goes_through : GoesThrough
goes_through c = (moments_of c).runs

left_in_span : Stretch → List Moment
left_in_span s = map (moment (almanac_under s.cursor)) (range_with_len (tick_of s.cursor) (1024 - s.cursor.at))

pub goes_through_span : GoesThroughSpan
unfolding left_in_span
goes_through_span s = (YieldsList-from_shown StepsInSpan (λ x. x) left_in_span at_end before_end s).runs
  where
    at_end : (s e : Stretch) → StepsInSpan s None e → length (left_in_span s) ≡ 0
    at_end s e p = length-map-range_with_len (moment (almanac_under s.cursor)) (tick_of s.cursor) (1024 - s.cursor.at) ∙ omega (arith, p.0)

    before_end : (s : Stretch) (x : Moment) (e : Stretch) → StepsInSpan s (Some x) e → left_in_span s ≡ x ∷ left_in_span e
    before_end s x e p =
        shown_more (almanac_under s.cursor) (almanac_under e.cursor) x (tick_of s.cursor) (tick_of e.cursor) (1024 - s.cursor.at) (1024 - e.cursor.at)
        p.1 (ap (almanac_in 1024) p.2.file) p.2.tick (omega (arith, p.0, p.3))

-- ---- parts
module _ (xs part : List ℤ) (from end : ℕ) (inside : InFile xs from end) (p : PartOf xs from end part) where
  part_is : part ≡ take (4 * (end - from)) (drop (4 * from) xs)
  part_is = p.taken inside

  part_length : length part ≡ 4 * (end - from)
  part_length = rw part_is (simp (length-take, length-drop) (omega (arith, inside.0, inside.1)))

  part_at : (k j : ℕ) → k < 4 * (end - from) → 4 * from + k ≡ j → get_or part k (pos 0) ≡ get_or xs j (pos 0)
  part_at k j h e = rw part_is (rw (get_or-take, get_or-drop) (ap (λ (i : ℕ). get_or xs i (pos 0)) e))

  part_span : (i : ℕ) → i < end - from → span_at part i ≡ span_at xs (from + i)
  part_span i h =
      (λ v. record {
        a = part_at (4 * i) (4 * (from + i)) (omega arith) (omega arith) v;
        b = part_at (4 * i + 1) (4 * (from + i) + 1) (omega arith) (omega arith) v;
        c = part_at (4 * i + 2) (4 * (from + i) + 2) (omega arith) (omega arith) v;
        d = part_at (4 * i + 3) (4 * (from + i) + 3) (omega arith) (omega arith) v;
      })

  part_height : (n t : ℕ) → 0 < n → t < (end - from) * n → height_at (almanac_in n part) t ≡ height_at (almanac_in n xs) (from * n + t)
  part_height n t some h =
      let i = t / n in
      let u = t % n in
      let whole : i * n + u ≡ t = div-add-mod' t n in
      let there : (from + i) * n + u ≡ from * n + t = omega (arith, whole) in
      ap (height_at (almanac_in n part)) (sym whole)
      ∙ height_in_span (almanac_in n part) i u (mod-lt t some)
      ∙ ap (λ (s : Span). height n s u) (part_span i ((div-lt_iff_lt-mul some).1 h))
      ∙ sym (height_in_span (almanac_in n xs) (from + i) u (mod-lt t some))
      ∙ ap (height_at (almanac_in n xs)) there

pub reads_on : ReadsOn
reads_on n xs part from end some inside p = (omega (arith, part_length xs part from end inside p), λ t h. part_height xs part from end inside p n t some h)
