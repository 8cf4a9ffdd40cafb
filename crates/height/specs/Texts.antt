-- How a refusal is written, without a line break. Assumes nothing: these are definitions.
use Rattle.std.specs.Prelude.{ℕ, List, ◌++◌, codes, decimal}
use Rattle.std.specs.Fmt.{signed_decimal}
use Rattle.height.specs.Refusals.{refusal_number, refusal_place}
use Rattle.height.specs.declared.refusal.Refusal.{Refusal}
use Rattle.height.specs.declared.refusal.Refusal.TheVariants.{File, Line, Tick, Asked, Text}

abbrev pub reason_text : Refusal → List ℕ
reason_text (File p) = codes "the file is not 1 to 4096 spans of four numbers within 16777216"
reason_text Line = codes "the line is beyond 16777216"
reason_text (Tick t) = codes "the tick is not in the file"
reason_text (Asked n) = codes "something else is asked for than above, rise or set"
reason_text (Text l) = codes "the text cannot be read"

-- its number, its place, and the reason
abbrev pub refusal_text : Refusal → List ℕ
refusal_text e =
    codes "refused " ++ (decimal (refusal_number e) ++ (codes " at " ++ (signed_decimal (refusal_place e) ++ (codes ": " ++ reason_text e))))
