use Rattle.std.proofs.Common.{ℕ, ◌<◌, [], get_or}
use Rattle.bch.specs.Search.{Equation}
use Rattle.bch.proofs.decoder.Damaged.key_equations.Given as goal

-- the equations before i are there
abbrev pub invariant-loop-i : goal.invariant-loop-i
invariant-loop-i l = (k : ℕ) → k < l.i → Equation l.self.syndromes k l.v (get_or l.row-items k [])
