use Rattle.round_laws.proofs.ExactAnswers.{closings}
use Rattle.round_laws.proofs.closings_law.Goals as goal

pub returns : goal.returns
returns c = closings
