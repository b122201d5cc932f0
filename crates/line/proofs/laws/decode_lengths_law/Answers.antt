use Rattle.line.proofs.EveryLine.{decode_lengths}
use Rattle.line.proofs.laws.decode_lengths_law.Goals as goal

pub returns : goal.returns
returns c = decode_lengths
