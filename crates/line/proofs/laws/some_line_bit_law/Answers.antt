use Rattle.line.proofs.EveryLine.{some_line_bit}
use Rattle.line.proofs.laws.some_line_bit_law.Goals as goal

pub returns : goal.returns
returns c = some_line_bit
