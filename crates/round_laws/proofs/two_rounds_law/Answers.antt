use Rattle.round_laws.proofs.Frames.{two_rounds}
use Rattle.round_laws.proofs.two_rounds_law.Goals as goal

pub returns : goal.returns
returns c = two_rounds
