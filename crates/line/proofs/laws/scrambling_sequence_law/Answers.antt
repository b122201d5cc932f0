use Rattle.line.proofs.ScramblingRules.{scrambling_sequence}
use Rattle.line.proofs.laws.scrambling_sequence_law.Goals as goal

pub returns : goal.returns
returns c = scrambling_sequence
