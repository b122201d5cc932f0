use Rattle.round_laws.proofs.ExactAnswers.{exact_answers}
use Rattle.round_laws.proofs.exact_answers_law.Goals as goal

pub returns : goal.returns
returns c = exact_answers
