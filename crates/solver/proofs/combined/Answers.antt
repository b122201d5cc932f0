use Rattle.std.proofs.Common.{rules}
use Rattle.solver.proofs.combined.Goals as goal

pub returns : goal.returns
returns c = λ k h. let called = c.from_fn.ensures.items.at k 0 h in search rules
