use Rattle.std.proofs.Common.{◌≡◌, ◌+◌, ◌-◌, [], length, get_or, take, drop, replicate, refl, ◌∙◌, arith, length-set, length-take, length-drop}
use Rattle.solver.proofs.Rows.{free, pivot_solved, pivot_none, end_solved, end_none, small_set, small_zeros, side_part}
use Rattle.solver.proofs.+solve_from.Goals as goal

pub returns-then-col-v : goal.returns-then-col-v
returns-then-col-v t c =
    (refl, end_solved c.args.rows.now c.args.col c.args.v (drop c.args.col (replicate 6 0)) c.if-col-v.true c.in_default.ensures, small_zeros 6)

pub returns-else-col-v : goal.returns-else-col-v
returns-else-col-v t c = free c.args.rows.now c.args.col c.args.v (omega arith) c.requires.1 c.in_default.ensures c.solve_from.result c.solve_from.ensures

pub returns-then-col-v-2 : goal.returns-then-col-v-2
returns-then-col-v-2 t c =
    end_none c.args.rows.now c.args.col c.args.v c.in-Some.p c.if-col-v-2.true c.in-Some.ensures.0 c.in-Some.ensures.1

pub returns-in_err-xs : goal.returns-in_err-xs
returns-in_err-xs t c =
    rw c.from_residual.ensures
    (pivot_none c.args.rows.now c.args.col c.args.v (omega arith) c.requires.1 c.in-Some.p c.in-Some.ensures.0 c.eliminate.new.rows (omega arith) c.eliminate.ensures c.in_err-xs.ensures)

pub returns : goal.returns
returns t c =
    let v = c.args.v in
    let col = c.args.col in
    let xs = c.in_ok-xs.xs in
    let row = get_or c.args.rows.now c.in-Some.p [] in
    let part : length (take (v - (col + 1)) (drop (col + 1) xs)) ≡ v - (col + 1) = simp (length-take, length-drop) (omega arith) in (
      omega (arith, length-set xs col c.product.result),
      pivot_solved c.args.rows.now col v (omega arith) c.requires.1 c.in-Some.p c.in-Some.ensures.0 c.eliminate.new.rows (omega arith) c.eliminate.ensures
          xs c.left_side-rest.result c.product.result (omega arith) c.in-Some.ensures.1
          (c.left_side-rest.ensures ∙ side_part (col + 1) v row _ (omega arith) (omega arith) part)
          (cc) c.in_ok-xs.ensures.1,
      small_set xs col c.product.result c.in_ok-xs.ensures.2 c.product.ensures.small,
    )
