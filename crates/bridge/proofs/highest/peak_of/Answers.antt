use Rattle.std.proofs.Common.{◌≡◌, ap, ◌∙◌, w64, SFits, rules}
use Rattle.std.proofs.lemmas.Int.{to_z-of_z}
use Rattle.height.specs.Files.{almanac_in}
use Rattle.height.specs.Views.{almanac_of}
use Rattle.reading.specs.Cursors.{tick_of}
use Rattle.bridge.proofs.Peaking.{peak_more}
use Rattle.bridge.proofs.highest.peak_of.Goals as goal

pub loop-moment-preserved : goal.loop-moment-preserved
loop-moment-preserved c =
    let was = c.loop-moment.moment-iterator in
    let step = c.in-Some.ensures.steps in
    let f : SFits w64 c.in-Some.moment.height = search rules in
    let at : c.in-Some.moment.tick ≡ tick_of was = ap (λ x. x.tick) step.1 in (
      step.2.file ∙ c.loop-moment.invariant.0,
      peak_more (almanac_of c.args.view) (almanac_of was.view) (tick_of was) (tick_of c.next.new.self) c.loop-moment.peak c.higher-peak.result c.in-Some.moment.height
          (ap (almanac_in 1024) c.loop-moment.invariant.0) step.2.tick step.0 (ap (λ x. x.height) step.1)
          (λ up. (simp to_z-of_z at c.higher-peak.ensures.up) up ∙ ap (λ t. record { tick = t; height = c.in-Some.moment.height }) at)
          (simp to_z-of_z at c.higher-peak.ensures.same) c.loop-moment.invariant.1,
    )
