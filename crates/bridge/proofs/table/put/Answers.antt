use Rattle.std.proofs.Common.{sym, arith}
use Rattle.std.proofs.lemmas.List.{set_past}
use Rattle.bridge.proofs.table.put.Goals as goal

pub returns-else-at-into : goal.returns-else-at-into
returns-else-at-into c = sym (set_past c.args.into.now c.args.at c.args.tick (omega arith))
