use Rattle.field.proofs.Products.{product_is, product_zero_l, product_zero_r, exp_below}
use Rattle.field.proofs.arithmetic.product.Goals as goal

pub returns-in-Some-Some : goal.returns-in-Some-Some
returns-in-Some-Some c =
    let r = c.power_of_c.result in
    record {
      is = product_is c.args.a c.args.b c.in-Some-Some.i c.in-Some-Some.j r c.in-Some-Some.ensures.0 c.in-Some-Some.ensures'.0 c.power_of_c.ensures;
      small = exp_below r _ c.power_of_c.ensures;
    }

pub returns-in_default-clause-is : goal.returns-in_default-clause-is
returns-in_default-clause-is c = product_zero_r c.args.a c.args.b c.in_default.ensures'

pub returns-in_default-2-clause-is : goal.returns-in_default-2-clause-is
returns-in_default-2-clause-is c = product_zero_l c.args.a c.args.b (rw c.in_default.is-0 at c.logarithm.ensures)
