use Rattle.std.proofs.Common.{◌≡◌, ℕ, ◌-◌, ap, ◌∙◌, arith}
use lib.Ieee.{size}
use Rattle.binary.proofs.Coded.{drop_small, unit_pos, parts_small, multiple_is, leading_at_most}
use Rattle.binary.proofs.digits.leading_digits.Goals as goal

drop-is : (c : goal.After-saturating_sub-drop) → c.saturating_sub-drop.result ≡ size c.args.n - 53
drop-is c = c.saturating_sub-drop.ensures ∙ ap (λ (k : ℕ). k - 53) c.digits_in.ensures

pub overflow_shl-unit : goal.overflow_shl-unit
overflow_shl-unit c = drop_small c.args.n c.saturating_sub-drop.result c.requires (drop-is c)

pub overflow_shr-n : goal.overflow_shr-n
overflow_shr-n c = drop_small c.args.n c.saturating_sub-drop.result c.requires (drop-is c)

pub overflow_sub-unit : goal.overflow_sub-unit
overflow_sub-unit c = unit_pos c.args.n c.saturating_sub-drop.result c.requires (drop-is c)

pub nearest_multiple-requires : goal.nearest_multiple-requires
nearest_multiple-requires c = parts_small c.args.n c.saturating_sub-drop.result c.requires (drop-is c)

pub returns : goal.returns
returns c =
    multiple_is c.args.n c.saturating_sub-drop.result c.requires
    (c.saturating_sub-drop.ensures ∙ ap (λ (k : ℕ). k - 53) c.digits_in.ensures) c.nearest_multiple.result c.nearest_multiple.ensures

pub overflow_mul-result : goal.overflow_mul-result
overflow_mul-result c = record { fits = omega (arith, returns c, leading_at_most c.args.n 126 c.requires) }
