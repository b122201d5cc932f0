use Rattle.carrier_laws.proofs.Reading.{closed_only}
use Rattle.carrier_laws.proofs.closed_only_by_rounds_law.Goals as goal

pub returns : goal.returns
returns c = closed_only
