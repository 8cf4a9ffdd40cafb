use Rattle.std.proofs.Common.{ap, ◌∙◌, arith, vec_items, w64, SFits, rules}
use Rattle.std.proofs.lemmas.Int.{to_z-of_z}
use Rattle.height.specs.Files.{almanac_in}
use Rattle.height.specs.Views.{almanac_of}
use Rattle.reading.specs.Cursors.{tick_of}
use Rattle.reading.proofs.Moments.{heights_more}
use Rattle.reading.proofs.heights.all_heights.Goals as goal

pub loop-moment-preserved : goal.loop-moment-preserved
loop-moment-preserved c =
    let was = c.loop-moment.moment-iterator.cursor in
    let step = c.in-Some.ensures.steps in
    let f : SFits w64 c.in-Some.moment.height = search rules in (
      step.2.file ∙ c.loop-moment.invariant.0,
      rw c.in_ok-push.ensures.items (simp to_z-of_z (heights_more (almanac_of c.args.view) (almanac_of was.view) (tick_of was) (tick_of c.next.new.self.cursor) (vec_items c.loop-moment.heights) c.in-Some.moment.height
          (ap (almanac_in 1024) c.loop-moment.invariant.0) step.2.tick (ap (λ x. x.height) step.1) c.loop-moment.invariant.1)),
      omega (arith, step.2.tick, step.3, c.loop-moment.invariant.2),
    )
