use Rattle.std.proofs.Common.{◌-◌}
use Rattle.solver.proofs.+solve_from.Given as goal

abbrev pub decreases-solve_from : goal.decreases-solve_from
decreases-solve_from l = l.v - l.col
