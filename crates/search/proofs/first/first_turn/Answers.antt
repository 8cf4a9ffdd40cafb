use Rattle.std.proofs.Common.{ℕ, ◌+◌, not, unwrap_or, subst, arith}
use Rattle.search.specs.Walks.{Walked}
use Rattle.search.proofs.Steps.{walked_on, first_wider}
use Rattle.search.proofs.Turning.{turn}
use Rattle.search.proofs.first.first_turn.Goals as goal

pub returns : goal.returns
returns g c =
    let m = g.S.Signal.course c.args.signal.now in
    let w = c.args.wanted in
    let p = c.first_where-other.ensures in
    let q = c.first_where-found.ensures in
    record {
      first = turn m.so w c.args.from c.saturating_sub.result m.stop c.first_where-other.result.tick c.first_where-found.result.tick c.requires c.saturating_sub.ensures p.first
          (first_wider m.so w _ c.first_where-other.result.till _ _ p.walked.order p.walked.stays q.first);
      walked = subst (λ (s : ℕ). Walked m w s (unwrap_or c.first_where-found.result.tick m.stop) c.first_where-found.result.till (c.first_where-other.result.evaluations + c.first_where-found.result.evaluations)) c.saturating_sub.ensures (walked_on m (not w) w _ _ _ _ _ _ _ p.walked q.walked);
      counted = omega arith;
    }
