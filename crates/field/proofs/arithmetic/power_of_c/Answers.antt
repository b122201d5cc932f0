use Rattle.field.proofs.Products.{powers, power_at}
use Rattle.field.proofs.arithmetic.power_of_c.Goals as goal

pub returns : goal.returns
unfolding powers
returns c = power_at c.args.k c.requires
