use Rattle.std.proofs.Common.{string_bytes, rules}
use Rattle.almanac.specs.Doors.{numbers_of}
use Rattle.crossing.specs.Above.{above}
use Rattle.crossing.specs.Events.{happens}
use Rattle.height.specs.Files.{almanac_in}
use Rattle.session.proofs.Answering.{first_said}
use Rattle.session.proofs.reply.Desk.first.Goals as goal

pub returns : goal.returns
returns c =
    let m = almanac_in 1024 (numbers_of c.args.self.now.almanac) in
    let a = c.in_ok-first.ensures in
    first_said m c.args.z (happens c.args.event (above m c.args.self.now.line.thousandths)) c.in_ok-tick.tick c.in_ok-first.first.tick (string_bytes c.args.out.now) (string_bytes c.put_tick.new.out)
    (search rules) a.0 (search rules) c.in_ok-put_tick.ensures
