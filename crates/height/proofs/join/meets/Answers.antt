use Rattle.std.proofs.Common.{w64, SFits, rules}
use Rattle.std.proofs.lemmas.Int.{to_z-of_z}
use Rattle.height.proofs.Joins.{met}
use Rattle.height.proofs.join.meets.Goals as goal

pub returns : goal.returns
returns g c =
    let m = g.S.Source.almanac c.args.source.now in
    let fx : SFits w64 c.height-last.result = search rules in
    let fy : SFits w64 c.height-first.result = search rules in
    met m c.args.i c.span_ticks-n.result c.span-one.result c.span-next.result c.height-last.result c.height-first.result c.abs_diff.result c.max.result c.slope.result c.slope-2.result
    c.span_ticks-n.ensures.value c.span_ticks-n.ensures.coarse c.span-one.ensures.value c.span-next.ensures.value
    c.height-last.ensures.value c.height-first.ensures.value (simp to_z-of_z at c.abs_diff.ensures)
    c.slope.ensures.value c.slope-2.ensures.value c.max.ensures
