use Rattle.carrier_laws.proofs.Undamaged.{runs_exist}
use Rattle.carrier_laws.proofs.runs_exist_law.Goals as goal

pub returns : goal.returns
returns c = runs_exist
