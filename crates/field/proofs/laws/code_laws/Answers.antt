use Rattle.field.proofs.Differences.{code_laws}
use Rattle.field.proofs.laws.code_laws.Goals as goal

pub returns : goal.returns
returns c = code_laws
