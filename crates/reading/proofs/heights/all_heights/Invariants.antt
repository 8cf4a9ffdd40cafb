use Rattle.std.proofs.Common.{◌≡◌, ◌+◌, ◌*◌}
use Rattle.height.specs.Almanacs.{height_at}
use Rattle.height.specs.Views.{almanac_of}
use Rattle.reading.specs.Cursors.{in_turn, tick_of}
use Rattle.reading.proofs.heights.all_heights.Given as goal

abbrev pub invariant-loop-span : goal.invariant-loop-span
invariant-loop-span l = l.heights.items ≡ in_turn (height_at (almanac_of l.view)) (l.span * 1024)

abbrev pub invariant-loop-moment : goal.invariant-loop-moment
invariant-loop-moment l =
    (l.moment-iterator.cursor.view.numbers.now ≡ l.view.numbers.now)
    × (l.heights.items ≡ in_turn (height_at (almanac_of l.view)) (tick_of l.moment-iterator.cursor))
    × (tick_of l.moment-iterator.cursor ≡ l.span * 1024 + l.moment-iterator.cursor.at)
