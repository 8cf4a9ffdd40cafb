use Rattle.std.proofs.Common.{◌≡◌, ◌++◌, take, string_bytes}
use Rattle.std.specs.List.{flat_map}
use Rattle.text.specs.Answers.{crossing_bytes}
use Rattle.text.proofs.answer.put_table.Given as goal

-- the lines so far
abbrev pub invariant-loop-crossing : goal.invariant-loop-crossing
invariant-loop-crossing l =
    string_bytes l.out ≡ string_bytes l.initial.out ++ flat_map crossing_bytes (take l.crossing-index l.crossings)
