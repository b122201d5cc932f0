use Rattle.std.proofs.Common.{◌%◌, arith}
use Rattle.field.proofs.Elements.{logarithms, logarithm}
use Rattle.field.proofs.arithmetic.logarithm.Goals as goal

pub returns-else-x-eq0 : goal.returns-else-x-eq0
unfolding logarithms
returns-else-x-eq0 c = logarithm (c.args.a % 128) (omega arith) (omega arith)
