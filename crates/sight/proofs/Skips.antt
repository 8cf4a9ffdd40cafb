-- How many ticks may be skipped. Assumes nothing.
use Rattle.std.proofs.Common.{◌≡◌, ℕ, zero, suc, ◌-◌, ◌*◌, ◌/◌, ◌<◌, min, refl, mul-le-mul_right, le-div_iff_mul-le, div-mul-le_self, arith}
use Rattle.sight.specs.Promise.{SkipsMost}
use Rattle.sight.specs.Sights.{skip}

-- the three ways of the code
pub skip_on : (d s most : ℕ) → d ≡ 0 → 0 ≡ skip d s most
unfolding skip
skip_on zero s most h = refl
skip_on (suc d) s most h = absurd (omega arith)

pub skip_level : (d s most : ℕ) → (d ≡ 0 → ⊥) → s ≡ 0 → most ≡ skip d s most
unfolding skip
skip_level zero s most h k = absurd (h refl)
skip_level (suc d) zero most h k = refl
skip_level (suc d) (suc s) most h k = absurd (omega arith)

pub skip_by : (d s most r : ℕ) → (d ≡ 0 → ⊥) → (s ≡ 0 → ⊥) → r ≡ min ((d - 1) / s) most → r ≡ skip d s most
unfolding skip
skip_by zero s most r h k e = absurd (h refl)
skip_by (suc d) zero most r h k e = absurd (k refl)
skip_by (suc d) (suc s) most r h k e =
    let p : suc d - 1 ≡ d = omega arith in
    rw p at e

pub skips_most : SkipsMost
unfolding skip
skips_most zero s most = record { within = omega arith; less = λ h. omega arith; most_of_all = λ j l h. absurd (omega arith) }
skips_most (suc d) zero most = record { within = omega arith; less = λ h. omega arith; most_of_all = λ j l h. l }
skips_most (suc d) (suc s) most =
    let q = d / suc s in
    record {
      within = omega arith;
      less = λ h. omega (arith, mul-le-mul_right {m = min q most} {n = q} (suc s) (omega arith), div-mul-le_self d (suc s));
      most_of_all = λ j l h. omega (arith, (le-div_iff_mul-le {k = suc s} {x = j} {y = d} (omega arith)).1 (omega arith));
    }

-- where any is skipped, as many slopes are less than the distance
pub skip_some : (d s most : ℕ) → 0 < skip d s most → skip d s most * s < d
unfolding skip
skip_some zero s most h = absurd (omega arith)
skip_some (suc d) s most h = (skips_most (suc d) s most).less (omega arith)
