use Rattle.std.proofs.Common.{ℕ, ◌+◌, min, sym, ap, ◌∙◌, arith, w64, SFits, rules}
use lib.Signed.{le_z}
use Rattle.std.proofs.lemmas.Int.{to_z-of_z}
use Rattle.height.specs.Spans.{slope}
use Rattle.height.proofs.Ticks.{height_read}
use Rattle.search.specs.Walks.{Seen}
use Rattle.sight.specs.Sights.{over_level}
use Rattle.height.specs.Almanacs.{ticks}
use Rattle.sight.proofs.Sighted.{room_left, sighted}
use Rattle.sight.proofs.sight.SightSignal.evaluate.Given as given
use Rattle.sight.proofs.sight.SightSignal.evaluate.Goals as goal

seen : (g : given.Over) (c : goal.After-result-1 g) → Seen (over_level (g.S.Source.almanac c.args.self.now.source) c.args.self.now.level (min c.args.self.now.end (ticks (g.S.Source.almanac c.args.self.now.source)))) c.args.tick (le_z c.args.self.now.level c.height-height.result) (c.args.tick + c.skip-skipped.result + 1)
seen g c =
    let m = g.S.Source.almanac c.args.self.now.source in
    let fine = c.span_ticks-n.ensures in
    let fh : SFits w64 c.height-height.result = search rules in
    let fl : SFits w64 c.args.self.now.level = search rules in
    sighted m c.args.self.now.level c.height-height.result (min c.args.self.now.end (ticks m)) c.args.tick c.span_ticks-n.result c.span-span.result c.abs_diff.result c.slope.result c.min-room.result c.skip-skipped.result
    (omega (arith, fine.coarse)) fine.value c.span-span.ensures.value
    (height_read m c.args.tick c.span_ticks-n.result 1024 c.span-span.result c.height-height.result fine.value fine.coarse c.span-span.ensures.value c.height-height.ensures.value)
    (simp to_z-of_z at c.abs_diff.ensures)
    (c.slope.ensures.value ∙ ap (λ (n : ℕ). slope n c.span-span.result) (sym fine.coarse))
    (room_left m c.args.self.now.end c.args.tick c.span_ticks-n.result c.min-room.result fine.coarse fine.value c.requires c.min-room.ensures) c.skip-skipped.ensures.value c.requires

pub returns : goal.returns
returns g c =
    let fh : SFits w64 c.height-height.result = search rules in
    let fl : SFits w64 c.args.self.now.level = search rules in
    record { seen = simp to_z-of_z (seen g c); counted = ap (λ m. m.heights) c.height-height.ensures.counted }
