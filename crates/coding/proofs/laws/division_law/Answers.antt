use Rattle.coding.proofs.Quotient.{division}
use Rattle.coding.proofs.laws.division_law.Goals as goal

pub returns : goal.returns
returns c = division
