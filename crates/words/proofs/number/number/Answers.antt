use Rattle.std.proofs.Common.{Some, None, sym, ap, ◌∙◌}
use Rattle.words.proofs.Signs.{with_minus, without_minus, negated, kept, stripped}
use Rattle.words.proofs.number.number.Goals as goal

pub returns-in_err-figures-in-Some-clause-value : goal.returns-in_err-figures-in-Some-clause-value
returns-in_err-figures-in-Some-clause-value c =
    c.from_residual.ensures ∙ with_minus c.args.word.now c.in-Some.after.now None (sym (stripped c.args.word.now) ∙ c.in-Some.ensures.cases.0) c.in-Some.ensures.cases.1 c.in_err-figures-in-Some.ensures.value

pub returns-in_err-figures-in-None-clause-value : goal.returns-in_err-figures-in-None-clause-value
returns-in_err-figures-in-None-clause-value c =
    c.from_residual-in_err-figures-in-None.ensures ∙ without_minus c.args.word.now None (sym (stripped c.args.word.now) ∙ c.in-None.ensures.cases) c.in_err-figures-in-None.ensures.value

pub returns-in_ok-figures-in-Some-clause-value : goal.returns-in_ok-figures-in-Some-clause-value
returns-in_ok-figures-in-Some-clause-value c =
    let n = c.in_ok-figures-in-Some.field-0 in
    ap Some (negated n c.in_ok-figures-in-Some.ensures.small).0 ∙ with_minus c.args.word.now c.in-Some.after.now (Some n) (sym (stripped c.args.word.now) ∙ c.in-Some.ensures.cases.0) c.in-Some.ensures.cases.1 c.in_ok-figures-in-Some.ensures.value

pub returns-in_ok-figures-in-None-clause-value : goal.returns-in_ok-figures-in-None-clause-value
returns-in_ok-figures-in-None-clause-value c =
    let n = c.in_ok-figures-in-None.field-0 in
    ap Some (kept n c.in_ok-figures-in-None.ensures.small) ∙ without_minus c.args.word.now (Some n) (sym (stripped c.args.word.now) ∙ c.in-None.ensures.cases) c.in_ok-figures-in-None.ensures.value
