use Rattle.card.proofs.Lives.{lives}
use Rattle.card.proofs.card.Card.open.Goals as goal

pub returns-clause-lives : goal.returns-clause-lives
returns-clause-lives c = lives c.args.octets.now
