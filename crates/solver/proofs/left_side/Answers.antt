use Rattle.std.proofs.Common.{ℕ, ◌%◌, ◌∙◌, rules}
use Rattle.std.proofs.lemmas.Iterator.{YieldsList-from_slice, YieldsList-from_zip}
use Rattle.std.proofs.lemmas.Iterator.Consumers.{fold_from_yields_List}
use lib.Bits.{bit_xor}
use Rattle.field.specs.Field.{mul}
use Rattle.solver.proofs.Rows.{side_sum}
use Rattle.solver.proofs.left_side.Goals as goal

pub returns : goal.returns
returns c =
    fold_from_yields_List _ (λ s (p : ℕ × ℕ). bit_xor s (mul p.0 p.1)) (c.args.constant % 128) c.fold.result c.fold.ensures.ran (YieldsList-from_zip (YieldsList-from_slice c.args.coefficients.now cc) (YieldsList-from_slice c.args.xs.now cc)) (λ a x b q k. search rules)
    ∙ side_sum c.args.coefficients.now c.args.xs.now c.args.constant 0 c.requires
