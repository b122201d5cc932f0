use Rattle.field.proofs.Elements.{field_laws}
use Rattle.field.proofs.laws.field_laws.Goals as goal

pub returns : goal.returns
returns c = field_laws
