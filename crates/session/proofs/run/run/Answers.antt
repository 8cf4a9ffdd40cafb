use Rattle.std.proofs.Common.{◌==◌, string_bytes, ap, ◌∙◌, arith, rules}
use Rattle.std.proofs.lemmas.List.Sorted.{answers_always}
use Rattle.session.specs.Held.{state_of}
use Rattle.session.specs.Sessions.{State}
use Rattle.session.proofs.Cutting.{first_cut, running_more, running_ends}
use Rattle.session.proofs.run.run.Goals as goal

pub loop-line-preserved : goal.loop-line-preserved
loop-line-preserved c =
    let e = c.in_ok-feed.ensures in
    let s = c.in-Some.ensures.steps in
    let cut = s.1 in
    let found = cut.2 (λ b. b == 10) (answers_always _ _ _ (λ f a r g h. search rules)) in (
      running_more c.args.text.now (state_of c.loop-line.session) (state_of c.feed.new.self) (string_bytes c.loop-line.out) (string_bytes c.feed.new.out) c.loop-line.line-iterator.rest.now c.in-Some.line.now c.next.new.self.rest.now
          c.loop-line.invariant.0 (first_cut _ _ _ cut.0 s.0 cut.1 found.1 s.2) e.0 e.1,
      search rules,
      search rules,
    )

pub returns : goal.returns
returns c =
    let p = running_ends c.args.text.now (state_of c.loop-line.session) (string_bytes c.loop-line.out) c.loop-line.line-iterator.rest.now c.loop-line.invariant.0 (omega (arith, c.in-None.ensures.steps.0)) in
    (p.0, c.refused.ensures ∙ ap (λ (s : State). s.refused) p.1)
