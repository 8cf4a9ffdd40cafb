-- What a cursor gives. Assumes nothing.
use Rattle.std.proofs.Common.{◌≡◌, ℕ, ◌+◌, ◌*◌, ◌<◌, eqb, List, [], ◌∷◌, ◌++◌, map, ◌-◌, ℤ, sym, ap, ◌∙◌, arith}
use lib.Arith.{digits_mod}
use Rattle.std.specs.List.{range_with_len}
use Rattle.std.proofs.lemmas.List.FromFn.{map-range_with_len_more}
use Rattle.std.proofs.lemmas.Simd.{map-map}
use Rattle.height.specs.Almanacs.{Almanac, ticks, height_at}
use Rattle.height.specs.Spans.{height}
use Rattle.height.proofs.Ticks.{height_in_span}
use Rattle.reading.specs.declared.answer.Moment.{Moment}
use Rattle.reading.specs.Cursors.{moment, in_turn}

-- tick u of span i, as it is worked out
pub moment_is : (m : Almanac) (i u t : ℕ) (x : ℤ) → u < m.fine → t ≡ i * m.fine + u → x ≡ height m.fine (m.span i) u → ◌≡◌ {A = Moment} (record { tick = t; height = x; first = eqb u 0 }) (moment m (i * m.fine + u))
moment_is m i u t x h t-is x-is =
    (λ j. record { tick = t-is j; height = (x-is ∙ sym (height_in_span m i u h)) j; first = eqb (sym (digits_mod i h) j) 0 })

-- the heights that a cursor gives which stands before tick 0
pub heights_in_turn : (m k : Almanac) (t : ℕ) → k ≡ m → t ≡ 0 → map (λ (x : Moment). x.height) (map (moment k) (range_with_len t (ticks k - t))) ≡ in_turn (height_at m) (ticks m)
heights_in_turn m k t same start =
    map-map (λ (x : Moment). x.height) (moment k) (range_with_len t (ticks k - t)) ∙ (λ i. in_turn_from (same i) (start i)) ∙ ap (in_turn (height_at m)) (from_zero (ticks m))
  where
    from_zero : (n : ℕ) → n - 0 ≡ n
    from_zero n = omega arith

    in_turn_from : Almanac → ℕ → List ℤ
    in_turn_from n u = map (height_at n) (range_with_len u (ticks n - u))

-- the heights of the first ticks, and the one that follows
pub heights_more : (m n : Almanac) (t u : ℕ) (xs : List ℤ) (x : ℤ) → n ≡ m → u ≡ t + 1 → x ≡ height_at n t → xs ≡ in_turn (height_at m) t → xs ++ (x ∷ []) ≡ in_turn (height_at m) u
heights_more m n t u xs x same next x-is xs-are =
    (λ i. xs-are i ++ ((x-is ∙ ap (λ (k : Almanac). height_at k t) same) i ∷ []))
    ∙ sym (map-range_with_len_more (height_at m) 0 t t (omega arith))
    ∙ ap (in_turn (height_at m)) (sym next)
