-- Figures written one after the other. Assumes nothing.
use Rattle.std.proofs.Common.{◌≡◌, ℕ, zero, suc, ◌+◌, ◌-◌, ◌*◌, ◌/◌, ◌%◌, ◌^◌, ◌<◌, ◌≤◌, List, [], ◌∷◌, ◌++◌, ℤ, decimal, sym, refl, ap, ◌∙◌, subst, append_assoc, append-nil, mod-lt, div-lt_iff_lt-mul, arith, lit<, pow_pos, to_z, of_z}
use native.Mathlib.Nat.{pow-succ', pow-le-pow_right}
use mir.Syntax.{w128}
use Rattle.std.proofs.lemmas.Nat.{one_shl}
use Rattle.std.proofs.lemmas.Fmt.{decimal_digit}
use Rattle.std.proofs.lemmas.Bool.{cond-true, cond-false, eq-eqb, ne_eqb}
use Rattle.decimal.specs.Figures.{figures}

-- what is written, and the figures to come, are all of them
pub record Writing (left rest : ℕ) (is all : List ℕ) : Type 0 where
  pub small : rest < 2 ^ left
  pub few : left ≤ 125
  pub text : is ++ figures left rest ≡ all

-- nothing is left to write of 0
pub no_figures : (k f : ℕ) → f ≡ 0 → figures k f ≡ []
unfolding figures
no_figures zero f e = refl
no_figures (suc k) f e = cond-true _ _ _ (eq-eqb f 0 e)

-- the first figure, and those of the rest
pub first_figure : (k f : ℕ) → 0 < f → figures (suc k) f ≡ (48 + (f * 5) / 2 ^ k) ∷ figures k ((f * 5) % 2 ^ k)
unfolding figures
first_figure k f some = cond-false _ _ _ (ne_eqb f 0 (λ e. omega arith))

-- the first figure is one
pub figure_below : (k f : ℕ) → f < 2 ^ suc k → (f * 5) / 2 ^ k < 10
figure_below k f h = (div-lt_iff_lt-mul (pow_pos k)).1 (omega (arith, h, pow-succ' 2 k))

-- a unit as the code has it
pub unit_is : (k : ℕ) → k ≤ 125 → (1 * 2 ^ k) % 2 ^ 128 ≡ 2 ^ k
unit_is k K = one_shl k 128 (omega arith)

pub rest_small : (left rest : ℕ) (is all : List ℕ) → Writing left rest is all → rest < 2 ^ 125
rest_small left rest is all w = omega (arith, w.small, pow-le-pow_right {n = 2} (lit< tt) w.few)

-- the next figure is written, with k places left
abbrev Next : (k rest unit : ℕ) (is now all : List ℕ) → Type 0
Next k rest unit is now all = now ≡ is ++ decimal ((rest * 5) / unit) → Writing k ((rest * 5) % unit) now all

next_over : (k rest : ℕ) (is now all : List ℕ) → Writing (suc k) rest is all → 0 < rest → Next k rest (2 ^ k) is now all
next_over k rest is now all w some e = record {
  small = mod-lt (rest * 5) (pow_pos k);
  few = omega (arith, w.few);
  text =
      ap (λ (l : List ℕ). l ++ figures k ((rest * 5) % 2 ^ k)) (e ∙ ap (λ (l : List ℕ). is ++ l) (decimal_digit ((rest * 5) / 2 ^ k) (figure_below k rest w.small)))
      ∙ append_assoc is _ (figures k ((rest * 5) % 2 ^ k))
      ∙ ap (λ (l : List ℕ). is ++ l) (sym (first_figure k rest some))
      ∙ w.text;
}

pub next_figure : (left rest : ℕ) (is now all : List ℕ) → Writing left rest is all → 0 < rest → Next (left - 1) rest ((1 * 2 ^ (left - 1)) % 2 ^ 128) is now all
next_figure zero rest is now all w some = absurd (omega (arith, w.small))
next_figure (suc k) rest is now all w some =
    let same : k ≡ suc k - 1 = omega arith in
    subst (λ (j : ℕ). Next j rest ((1 * 2 ^ j) % 2 ^ 128) is now all) same
    (subst (λ (u : ℕ). Next k rest u is now all) (sym (unit_is k (omega (arith, w.few)))) (next_over k rest is now all w some))

-- all of them
pub all_written : (left rest : ℕ) (is all : List ℕ) → Writing left rest is all → rest ≤ 0 → is ≡ all
all_written left rest is all w h =
    sym (append-nil is) ∙ ap (λ (l : List ℕ). is ++ l) (sym (no_figures left rest (omega arith))) ∙ w.text

-- and once no places are left
pub none_left : (left rest : ℕ) (is all : List ℕ) → Writing left rest is all → left ≤ 0 → is ≡ all
none_left zero rest is all w h = all_written zero rest is all w (omega (arith, w.small))
none_left (suc k) rest is all w h = absurd (omega arith)

-- ---- an integer that the code holds as its bits
abbrev pub held : ℤ → ℤ
held h = to_z w128 (of_z w128 h)
