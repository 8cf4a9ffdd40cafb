-- Ticks of an almanac as ticks of its spans. Assumes nothing.
use Rattle.std.proofs.Common.{◌≡◌, ℕ, ◌+◌, ◌*◌, ◌/◌, ◌%◌, ◌<◌, ℤ, sym, ap, ◌∙◌, ap₂}
use lib.Arith.{digits_div, digits_mod}
use Rattle.height.specs.declared.span.Span.{Span}
use Rattle.height.specs.Almanacs.{Almanac, height_at}
use Rattle.height.specs.Spans.{height}

-- tick u of span i
pub height_in_span : (m : Almanac) (i u : ℕ) → u < m.fine → height_at m (i * m.fine + u) ≡ height m.fine (m.span i) u
unfolding height_at
height_in_span m i u h = ap₂ (λ (j v : ℕ). height m.fine (m.span j) v) (digits_div i h) (digits_mod i h)

-- the height worked out from the span that was read
pub height_read : (m : Almanac) (t n k : ℕ) (s : Span) (r : ℤ) → n ≡ m.fine → n ≡ k → s ≡ m.span (t / n) → r ≡ height k s (t % n) → r ≡ height_at m t
unfolding height_at
height_read m t n k s r fine coarse read value =
    value ∙ ap₂ (λ (f : ℕ) (v : Span). height f v (t % n)) (sym coarse) read ∙ ap (λ (f : ℕ). height f (m.span (t / f)) (t % f)) fine
