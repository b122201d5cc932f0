use Rattle.line.proofs.ScramblingRules.{window_start}
use Rattle.line_stages.proofs.scrambling.Sequence.new.Goals as goal

pub returns : goal.returns
returns c = window_start
