use Rattle.height.proofs.Bridges.{nested, half_added, checked_by_spans, meets_by_joins}
use Rattle.height.proofs.theorems.customary_forms_agree.Goals as goal

pub returns : goal.returns
returns c = (nested, half_added, checked_by_spans, meets_by_joins)
