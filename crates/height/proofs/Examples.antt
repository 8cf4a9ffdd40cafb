-- Two spans whose heights are known in every tick. Assumes nothing.
use Rattle.std.proofs.Common.{◌≡◌, ℕ, ◌+◌, ◌-◌, ◌*◌, ◌<◌, pos, ◌<ℤ◌, sym, refl, ap, ◌∙◌, inl, inr, mul_comm, add-mul, mul-pos, mul-add, arith}
use borrow.Author.Differences.{ints}
use Rattle.std.proofs.lemmas.Bool.{cases_lt}
use Rattle.height.specs.Promise.{Level, Touching, touching}
use Rattle.height.specs.Spans.{height, slope}

pub level_stays : Level
unfolding height slope
level_stays n = (omega arith, λ u. omega (arith, ints))

-- a square by the distance from the middle
square_before : (u d : ℕ) → u + d ≡ 512 → u * u + 1024 * d ≡ 262144 + d * d
square_before u d e =
    let p : (u + d) * (u + d) ≡ 512 * 512 = ap (λ (x : ℕ). x * x) e in
    let q : (u + d) * d ≡ 512 * d = ap (λ (x : ℕ). x * d) e in
    omega (arith, sym (add-mul u d (u + d)) ∙ p, mul-add u u d, mul-add d u d, sym (add-mul u d d) ∙ q, mul_comm d u)

square_behind : (d : ℕ) → (512 + d) * (512 + d) ≡ 262144 + 1024 * d + d * d
square_behind d = omega arith

-- below 0 at distance d before the middle, and behind it: the height is -4 · 1024 · d²
before : (u d : ℕ) → u + d ≡ 512 → 0 < d → height 1024 touching u <ℤ pos 0
unfolding height
before u d e h = omega (arith, ints, square_before u d e, mul-pos h h)

behind : (u d : ℕ) → 512 + d ≡ u → 0 < d → height 1024 touching u <ℤ pos 0
unfolding height
behind u d e h = omega (arith, ints, sym (square_behind d) ∙ ap (λ (x : ℕ). x * x) e, mul-pos h h)

pub touching_once : Touching
unfolding height
touching_once = (
  refl,
  λ u apart. elim (cases_lt u 512) [
    | inl h ↦ before u (512 - u) (omega arith) (omega arith)
    | inr h ↦ behind u (u - 512) (omega arith) (omega (arith, apart))
  ],
)
