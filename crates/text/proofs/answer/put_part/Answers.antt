use Rattle.std.proofs.Common.{◌++◌, ◌<◌, length, string_bytes, sym, ap, ◌∙◌, take_all, rules}
use Rattle.std.specs.List.{flat_map}
use Rattle.text.proofs.Writing.{four_bytes, part_each}
use Rattle.text.proofs.answer.put_part.Goals as goal

pub returns : goal.returns
returns c =
    let some : 0 < length c.args.part.now = search rules in
    c.loop-a.invariant ∙ ap (λ l. string_bytes c.args.out.now ++ l) (ap (flat_map four_bytes) (take_all c.loop-a.a-index c.as_chunks.result.0.now c.loop-a-test.false ∙ c.as_chunks.ensures.front) ∙ sym (part_each c.args.part.now some))
