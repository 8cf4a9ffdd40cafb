use Rattle.std.proofs.Common.{string_bytes, rules}
use Rattle.almanac.specs.Doors.{numbers_of}
use Rattle.text.specs.Orders.{order_of}
use Rattle.words.specs.Words.{words}
use Rattle.session.specs.Held.{state_of}
use Rattle.session.proofs.Asking.{bad_file, far_line, is_answered, is_refused}
use Rattle.session.proofs.session.Session.answer.Goals as goal

pub returns-in_err-self : goal.returns-in_err-self
returns-in_err-self c =
    let s = state_of c.args.self.now in
    let o = order_of (words c.args.line.now) in
    is_refused s o c.in_err-self.field-0.0 (string_bytes c.args.out.now) c.from_residual-in_err-self.result (rw c.in_err-self.ensures.1 (far_line s o c.in-Line.line (search rules) (search rules))) (search rules)

pub returns-in_err-almanac : goal.returns-in_err-almanac
returns-in_err-almanac c =
    let s = state_of c.args.self.now in
    let o = order_of (words c.args.line.now) in
    is_refused s o c.in_err-almanac.field-0.0 (string_bytes c.args.out.now) c.from_residual-in_err-almanac.result (rw c.in_err-almanac.ensures.1 (bad_file s o c.in_ok-order.order (search rules) (search rules) c.in_err-almanac.ensures.0)) (search rules)

pub returns : goal.returns
returns c =
    let s = state_of c.args.self.now in
    let o = order_of (words c.args.line.now) in
    is_answered s o c.in_ok-order.order (numbers_of c.in_ok-almanac.field-0) (string_bytes c.args.out.now) (string_bytes c.answer.new.out) c.answer.result c.requires (search rules) (search rules) c.in_ok-almanac.ensures.0 c.in_ok-almanac.ensures.1 c.answer.ensures
