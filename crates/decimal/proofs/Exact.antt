-- The figures behind the point: what they are worth, how many they are, and the last of them. Assumes nothing.
use Rattle.std.proofs.Common.{◌≡◌, ℕ, zero, suc, ◌+◌, ◌-◌, ◌*◌, ◌/◌, ◌%◌, ◌^◌, ◌<◌, ◌≤◌, true, List, [], ◌∷◌, length, sym, refl, ap, ◌∙◌, subst, inl, inr, mod-lt, div-add-mod', arith, pow_pos}
use native.Mathlib.Nat.{pow-succ'}
use Rattle.std.specs.Str.{all_ascii_digits}
use Rattle.std.proofs.lemmas.Str.Parse.{tells_all_ascii_digits}
use Rattle.std.proofs.lemmas.Bool.{cases_eq}
use Rattle.decimal.specs.Figures.{figures}
use Rattle.decimal.specs.Promise.{Exact, Few, NoZeroAtTheEnd, last}
use Rattle.decimal.specs.Reading.{read_on}
use Rattle.decimal.proofs.Writing.{figure_below, first_figure, no_figures}

-- what holds of the figures of f / 2 ^ k holds by induction: of none at 0, and of one figure q and those of the rest r
pub by_figures : (P : ℕ → ℕ → List ℕ → Type 0) → ((k : ℕ) → P k 0 []) → ((k f q r : ℕ) (ds : List ℕ) → f < 2 ^ suc k → 0 < f → q < 10 → r < 2 ^ k → q * 2 ^ k + r ≡ f * 5 → ds ≡ figures k r → P k r ds → P (suc k) f ((48 + q) ∷ ds)) → (k f : ℕ) → f < 2 ^ k → P k f (figures k f)
by_figures P none more zero f h =
    let z : 0 ≡ f = omega (arith, h) in
    subst (P 0 f) (sym (no_figures 0 f (sym z))) (subst (λ (g : ℕ). P 0 g []) z (none 0))
by_figures P none more (suc k) f h = elim (cases_eq f 0) [
  | inl z ↦ subst (P (suc k) f) (sym (no_figures (suc k) f z)) (subst (λ (g : ℕ). P (suc k) g []) (sym z) (none (suc k)))
  | inr n ↦
      subst (P (suc k) f) (sym (first_figure k f (omega arith)))
      (more k f ((f * 5) / 2 ^ k) ((f * 5) % 2 ^ k) (figures k ((f * 5) % 2 ^ k)) h (omega arith) (figure_below k f h) (mod-lt (f * 5) (pow_pos k)) (div-add-mod' (f * 5) (2 ^ k)) refl
      (by_figures P none more k ((f * 5) % 2 ^ k) (mod-lt (f * 5) (pow_pos k))))
]

-- one figure more: q units and a rest r of them are ten times f over twice the unit
step : (v p t n f m q r : ℕ) → m ≡ 10 * n + q → q * p + r ≡ f * 5 → v * p ≡ (m * p + r) * t → v * (2 * p) ≡ (n * (2 * p) + f) * (10 * t)
step v p t n f m q r e1 e2 e3 =
    let s : m * p + r ≡ 10 * (n * p) + f * 5 = ap (λ (z : ℕ). z * p + r) e1 ∙ omega (arith, e2) in
    let w : v * p ≡ (10 * (n * p) + f * 5) * t = e3 ∙ ap (λ (z : ℕ). z * t) s in
    omega (arith, w)

-- behind n they are n + f / 2 ^ k
pub exact_behind : (k f : ℕ) → f < 2 ^ k → (n : ℕ) → read_on n (figures k f) * 2 ^ k ≡ (n * 2 ^ k + f) * 10 ^ length (figures k f)
exact_behind = by_figures (λ k f ds. (n : ℕ) → read_on n ds * 2 ^ k ≡ (n * 2 ^ k + f) * 10 ^ length ds) (λ k n. omega arith) more
  where
    more : (k f q r : ℕ) (ds : List ℕ) → f < 2 ^ suc k → 0 < f → q < 10 → r < 2 ^ k → q * 2 ^ k + r ≡ f * 5 → ds ≡ figures k r → ((n : ℕ) → read_on n ds * 2 ^ k ≡ (n * 2 ^ k + r) * 10 ^ length ds) → (n : ℕ) → read_on n ((48 + q) ∷ ds) * 2 ^ suc k ≡ (n * 2 ^ suc k + f) * 10 ^ suc (length ds)
    more k f q r ds h some Q R e is rest n =
        rw (pow-succ' 2 k, pow-succ' 10 (length ds))
        (step (read_on (10 * n + (48 + q - 48)) ds) (2 ^ k) (10 ^ length ds) n f (10 * n + (48 + q - 48)) q r (omega arith) e (rest (10 * n + (48 + q - 48))))

pub exact : Exact
exact k f h = exact_behind k f h 0 ∙ omega arith

pub all_digits : (k f : ℕ) → f < 2 ^ k → all_ascii_digits (figures k f) ≡ true
all_digits = by_figures (λ k f ds. all_ascii_digits ds ≡ true) (λ k. refl) (λ k f q r ds h some Q R e is rest. tells_all_ascii_digits.more (48 + q) ds (omega arith) rest)

pub some_figures : (k f : ℕ) → f < 2 ^ k → 0 < f → 0 < length (figures k f)
some_figures = by_figures (λ k f ds. 0 < f → 0 < length ds) (λ k z. absurd (omega arith)) (λ k f q r ds h some Q R e is rest z. omega arith)

pub few : Few
few = by_figures (λ k f ds. length ds ≤ k) (λ k. omega arith) (λ k f q r ds h some Q R e is rest. omega arith)

pub no_zero_at_the_end : NoZeroAtTheEnd
no_zero_at_the_end k f h some = by_figures (λ k f ds. 0 < f → (b : ℕ) → last b ds ≡ 48 → ⊥) (λ k z. absurd (omega arith)) more k f h some 48
  where
    more : (k f q r : ℕ) (ds : List ℕ) → f < 2 ^ suc k → 0 < f → q < 10 → r < 2 ^ k → q * 2 ^ k + r ≡ f * 5 → ds ≡ figures k r → (0 < r → (b : ℕ) → last b ds ≡ 48 → ⊥) → 0 < f → (b : ℕ) → last (48 + q) ds ≡ 48 → ⊥
    more k f q r ds h some Q R e is rest z b l = elim (cases_eq r 0) [
      | inl r0 ↦ ends q r0 e (subst (λ (ds : List ℕ). last (48 + q) ds ≡ 48) (is ∙ no_figures k r r0) l)
      | inr r1 ↦ rest (omega arith) (48 + q) l
    ]
      where
        ends : (q : ℕ) → r ≡ 0 → q * 2 ^ k + r ≡ f * 5 → 48 + q ≡ 48 → ⊥
        ends zero r0 e l = omega arith
        ends (suc q) r0 e l = omega arith
