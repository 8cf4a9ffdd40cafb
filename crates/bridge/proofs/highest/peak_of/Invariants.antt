use Rattle.std.proofs.Common.{◌≡◌}
use Rattle.height.specs.Views.{almanac_of}
use Rattle.reading.specs.Cursors.{tick_of}
use Rattle.bridge.specs.Peaks.{Peaked}
use Rattle.bridge.proofs.highest.peak_of.Given as goal

abbrev pub invariant-loop-moment : goal.invariant-loop-moment
invariant-loop-moment l =
    (l.moment-iterator.view.numbers.now ≡ l.view.numbers.now)
    × Peaked (almanac_of l.view) (tick_of l.moment-iterator) l.peak
