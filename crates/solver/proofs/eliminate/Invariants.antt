use Rattle.std.proofs.Common.{◌≡◌, ℕ, ◌<◌, ◌≤◌, [], get_or}
use Rattle.solver.specs.Elimination.{Combined}
use Rattle.solver.proofs.eliminate.Given as goal

-- the equations before the index are done, and the others as they were
abbrev pub invariant-loop-row : goal.invariant-loop-row
invariant-loop-row l =
    ((k : ℕ) → k < l.row-index
    → Combined (get_or l.pivot l.col 0) (get_or l.initial.rows k []) (get_or (get_or l.initial.rows k []) l.col 0) l.pivot
    (get_or l.rows k []))
    × ((k : ℕ) → l.row-index ≤ k → get_or l.rows k [] ≡ get_or l.initial.rows k [])
