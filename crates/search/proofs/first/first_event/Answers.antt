use Rattle.search.proofs.first.first_event.Goals as goal

pub returns-in-Above-clause-first : goal.returns-in-Above-clause-first
returns-in-Above-clause-first g c = rw c.in-Above.is c.first_where.ensures.first

pub returns-in-Rise-clause-first : goal.returns-in-Rise-clause-first
returns-in-Rise-clause-first g c = rw c.in-Rise.is c.first_turn.ensures.first

pub returns-in-Set-clause-first : goal.returns-in-Set-clause-first
returns-in-Set-clause-first g c = rw c.in-Set.is c.first_turn-in-Set.ensures.first
