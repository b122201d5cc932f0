use Rattle.field.proofs.Products.{inverse_is, inverse_zero, exp_below}
use Rattle.field.proofs.arithmetic.inverse.Goals as goal

pub returns-in-Some : goal.returns-in-Some
returns-in-Some c =
    let k = c.in-Some.k in
    let r = c.power_of_c.result in
    record { is = inverse_is c.args.a k r c.in-Some.ensures.0 c.in-Some.ensures.1 c.power_of_c.ensures; small = exp_below r _ c.power_of_c.ensures }

pub returns-in-None-clause-is : goal.returns-in-None-clause-is
returns-in-None-clause-is c = inverse_zero c.args.a c.in-None.ensures
