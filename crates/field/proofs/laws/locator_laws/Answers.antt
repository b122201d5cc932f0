use Rattle.field.proofs.Corrections.{locator_laws}
use Rattle.field.proofs.laws.locator_laws.Goals as goal

pub returns : goal.returns
returns c = locator_laws
