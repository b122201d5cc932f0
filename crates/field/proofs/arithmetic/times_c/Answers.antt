use Rattle.field.proofs.Products.{times_c, times_c_small}
use Rattle.field.proofs.arithmetic.times_c.Goals as goal

pub returns : goal.returns
returns c = let e = times_c c.args.a in record { is = e; small = times_c_small c.args.a _ e }
