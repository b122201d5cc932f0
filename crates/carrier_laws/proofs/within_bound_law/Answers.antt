use Rattle.carrier_laws.proofs.Lines.{within_bound}
use Rattle.carrier_laws.proofs.within_bound_law.Goals as goal

pub returns : goal.returns
returns c = within_bound
