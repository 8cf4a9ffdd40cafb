-- Two files whose crossings of the line 0 are known in every tick. Assumes nothing.
use Rattle.std.proofs.Common.{◌≡◌, ℕ, ◌+◌, ◌*◌, ◌<◌, true, false, List, ℤ, pos, ◌<ℤ◌, sym, ap, ◌∙◌, subst, arith, lit<}
use lib.Signed.{le_z}
use borrow.Author.Differences.{ints}
use Rattle.height.specs.Almanacs.{height_at}
use Rattle.height.specs.Files.{almanac_in, span_at}
use Rattle.height.specs.Spans.{height}
use Rattle.height.proofs.Examples.{level_stays, touching_once}
use Rattle.height.proofs.Ticks.{height_in_span}
use Rattle.crossing.specs.Above.{over, above}
use Rattle.crossing.specs.Promise.{level_file, LevelAbove, touching_file, TouchingAbove}
use Rattle.crossing.proofs.Turns.{becomes_here}

-- a file of one span
alone : (xs : List ℤ) (t : ℕ) → t < 1024 → height_at (almanac_in 1024 xs) t ≡ height 1024 (span_at xs 0) t
alone xs t h =
    let e : t ≡ 0 * 1024 + t = omega arith in
    ap (height_at (almanac_in 1024 xs)) e ∙ height_in_span (almanac_in 1024 xs) 0 t h

on_or_over : (x : ℤ) → x ≡ pos 0 → le_z (pos 0) x ≡ true
on_or_over x e = ap (le_z (pos 0)) e

below : (x : ℤ) → x <ℤ pos 0 → le_z (pos 0) x ≡ false
below x h = sym (omega (arith, ints))

pub level_above : LevelAbove
unfolding over
level_above t h = on_or_over _ (alone level_file t h ∙ (level_stays 1024).1 t)

there : above (almanac_in 1024 touching_file) (pos 0) 512 ≡ true
unfolding over
there = on_or_over _ (alone touching_file 512 (lit< tt) ∙ touching_once.0)

elsewhere : (t : ℕ) → t < 1024 → (t ≡ 512 → ⊥) → above (almanac_in 1024 touching_file) (pos 0) t ≡ false
unfolding over
elsewhere t h apart = below _ (subst (λ (x : ℤ). x <ℤ pos 0) (sym (alone touching_file t h)) (touching_once.1 t apart))

pub touching_above : TouchingAbove
touching_above = (
  there,
  elsewhere,
  becomes_here true (above (almanac_in 1024 touching_file) (pos 0)) 511 there (elsewhere 511 (lit< tt) (λ e. omega (arith, e))),
  becomes_here false (above (almanac_in 1024 touching_file) (pos 0)) 512 (elsewhere 513 (lit< tt) (λ e. omega (arith, e))) there,
)
