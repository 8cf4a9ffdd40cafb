use Rattle.std.proofs.Common.{◌∙◌, w64, SFits, rules}
use Rattle.std.proofs.lemmas.Int.{to_z-of_z}
use Rattle.height.proofs.Ticks.{height_read}
use Rattle.height.proofs.source.Source.height.Goals as goal

pub returns-clause-value : goal.returns-clause-value
returns-clause-value g c =
    let r = c.height.result in
    let f : SFits w64 r = search rules in
    let n = c.span_ticks-n.result in
    to_z-of_z w64 r f ∙ height_read (g.Self.Source.almanac c.args.self.now) c.args.tick n 1024 c.span-span.result r c.span_ticks-n.ensures.value c.span_ticks-n.ensures.coarse c.span-span.ensures.value c.height.ensures.value
