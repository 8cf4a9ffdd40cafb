use Rattle.std.proofs.Common.{◌∙◌, Err, ap, string_bytes, subst}
use Rattle.text.specs.Orders.{order_of}
use Rattle.words.specs.Words.{words}
use Rattle.session.specs.Held.{Answers, state_of}
use Rattle.session.specs.Sessions.{passed}
use Rattle.session.proofs.Asking.{went_on, went_on_refused}
use Rattle.session.proofs.session.Session.ask.Goals as goal
use Rattle.session.proofs.session.Session.ask.Goals.{in-Ok, in-Err-Refused+in_ok-refuse-in-Err-Refused}

pub returns : goal.returns
returns c =
    let s = state_of c.args.self.now in
    let b = state_of c.begin.new.self in
    let t = state_of c.answer.new.self in
    let n = state_of c.pass.new.self in
    let o = order_of (words c.args.line.now) in
    elim c.match-answer.branch [
      | in-Ok w ↦ went_on s b t n o (string_bytes c.args.out.now) c.begin.ensures (string_bytes c.match-answer.out)
          (c.pass.ensures ∙ ap (λ x. passed (state_of x)) w.self-is) (w.in-Ok.ensures.0, ap string_bytes w.out-is ∙ w.in-Ok.ensures.1)
      | in-Err-Refused+in_ok-refuse-in-Err-Refused w ↦ went_on_refused s b t n o (string_bytes c.args.out.now) c.begin.ensures w.in-Err-Refused.refusal (state_of w.refuse.new.self) (string_bytes c.answer.new.out) (string_bytes c.match-answer.out)
          (c.pass.ensures ∙ ap (λ x. passed (state_of x)) w.self-is) c.requires (subst (λ f. Answers b o t (string_bytes c.args.out.now) (string_bytes c.answer.new.out) (Err f)) w.in-Err-Refused.field-0-is w.in-Err-Refused.ensures) (w.in_ok-refuse-in-Err-Refused.ensures.0, ap string_bytes w.out-is ∙ w.in_ok-refuse-in-Err-Refused.ensures.1)
    ]
