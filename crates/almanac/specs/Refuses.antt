-- When a question is refused, and as what. The checks come in this order: the file, the line, the tick, what is asked for. Assumes nothing: these are definitions.
use Rattle.std.specs.Prelude.{◌≡◌, ℕ, ◌^◌, ◌<◌, ◌≤◌, List, ℤ, pos, unsigned_abs}
use Rattle.height.specs.Almanacs.{ticks}
use Rattle.height.specs.Files.{almanac_in, Good, first_beyond}
use Rattle.height.specs.declared.refusal.Refusal.{Refusal}
use Rattle.height.specs.declared.refusal.Refusal.TheVariants.{File, Line, Tick, Asked, Text}

-- a line within 2^24 either way
abbrev pub LineTaken : ℤ → Type 0
LineTaken line = unsigned_abs line ≤ 2 ^ 24

-- a tick of the file
abbrev pub TickTaken : List ℤ → ℕ → Type 0
TickTaken xs t = t < ticks (almanac_in 1024 xs)

-- Nothing is wrong with a question about a line and a tick, asked by a number.
abbrev pub Taken : (xs : List ℤ) (line : ℤ) (t what : ℕ) → Type 0
Taken xs line t what = Good xs × LineTaken line × TickTaken xs t × (what ≤ 2)

-- A question is refused as the first check says that it does not pass.
abbrev pub Refuses : (xs : List ℤ) (line : ℤ) (t what : ℕ) → Refusal → Type 0
Refuses xs line t what (File p) = (Good xs → ⊥) × (p ≡ first_beyond xs)
Refuses xs line t what Line = Good xs × (LineTaken line → ⊥)
Refuses xs line t what (Tick p) = Good xs × LineTaken line × (TickTaken xs t → ⊥) × (p ≡ pos t)
Refuses xs line t what (Asked p) = Good xs × LineTaken line × TickTaken xs t × (what ≤ 2 → ⊥) × (p ≡ what)
Refuses xs line t what (Text p) = ⊥
