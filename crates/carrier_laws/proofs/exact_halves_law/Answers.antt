use Rattle.carrier_laws.proofs.Judgings.{exact_halves}
use Rattle.carrier_laws.proofs.exact_halves_law.Goals as goal

pub returns : goal.returns
returns c = exact_halves
