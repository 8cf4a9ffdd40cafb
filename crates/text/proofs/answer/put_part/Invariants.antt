use Rattle.std.proofs.Common.{◌≡◌, ◌++◌, take, string_bytes}
use Rattle.std.specs.List.{flat_map}
use Rattle.text.proofs.Writing.{four_bytes}
use Rattle.text.proofs.answer.put_part.Given as goal

-- the lines so far
abbrev pub invariant-loop-a : goal.invariant-loop-a
invariant-loop-a l =
    string_bytes l.out ≡ string_bytes l.initial.out ++ flat_map four_bytes (take l.a-index l.spans)
