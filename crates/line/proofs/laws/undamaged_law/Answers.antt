use Rattle.line.proofs.EveryLine.{undamaged}
use Rattle.line.proofs.laws.undamaged_law.Goals as goal

pub returns : goal.returns
returns c = undamaged
