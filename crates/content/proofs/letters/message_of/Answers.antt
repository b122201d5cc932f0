use Rattle.content.proofs.TakingApart.{kinds}
use Rattle.content.proofs.letters.message_of.Goals as goal

pub returns-clause-rule : goal.returns-clause-rule
returns-clause-rule c = kinds.message
