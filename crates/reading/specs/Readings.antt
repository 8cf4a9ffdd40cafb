-- A height as a binary64 number, and a body over a line. Assumes nothing: these are definitions.
use Rattle.std.specs.Prelude.{◌≡◌, ◌^◌, ℤ, pos, ◌-ℤ◌, ◌*ℤ◌, ◌≤ℤ◌, ◌<ℤ◌}
use Rattle.binary.specs.Nearest.{nearest_over, half_place}
use Rattle.binary.specs.Promise.{Within, Plain}
use Rattle.reading.specs.declared.answer.Near.{Near}
use Rattle.reading.specs.declared.answer.Sighting.{Sighting}
use Rattle.reading.specs.declared.answer.Sighting.TheVariants.{Seen, Hidden}

-- A height h that is kept times 2^30, as a binary64 number of thousandths: h / 2^30 rounded once, and half of what the last place of a number of that size is worth, 0 at 0. The exact height is no further off than that.
pub record Nears (h : ℤ) (r : Near) : Type 0 where
  pub height : r.height ≡ nearest_over 30 h
  pub error : r.error ≡ half_place 30 h
  pub within : Within r.height 30 h r.error

-- how far a height h that is kept times 2^30 is above a line of whole thousandths, times 2^30 too
abbrev pub above_line : (h line : ℤ) → ℤ
above_line h line = h -ℤ (line *ℤ pos (2 ^ 30))

-- A body at height h against a line. Seen: it is not below the line, and is this many thousandths above it, rounded once; that number has a plus, and is not below zero. Hidden: it is below the line.
abbrev pub Sights : (h line : ℤ) → Sighting → Type 0
Sights h line (Seen x) = (pos 0 ≤ℤ above_line h line) × (x ≡ nearest_over 30 (above_line h line)) × Plain x
Sights h line Hidden = above_line h line <ℤ pos 0
