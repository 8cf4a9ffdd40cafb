-- Each refusal's number and place. Assumes nothing: these are definitions.
use Rattle.std.specs.Prelude.{ℕ, ℤ, pos}
use Rattle.height.specs.declared.refusal.Refusal.{Refusal}
use Rattle.height.specs.declared.refusal.Refusal.TheVariants.{File, Line, Tick, Asked, Text}

abbrev pub refusal_number : Refusal → ℕ
refusal_number (File p) = 1
refusal_number Line = 2
refusal_number (Tick t) = 3
refusal_number (Asked n) = 4
refusal_number (Text l) = 5

-- places count from 0; a tick is its own place, also one below 0
abbrev pub refusal_place : Refusal → ℤ
refusal_place (File p) = pos p
refusal_place Line = pos 0
refusal_place (Tick t) = t
refusal_place (Asked n) = pos n
refusal_place (Text l) = pos l
