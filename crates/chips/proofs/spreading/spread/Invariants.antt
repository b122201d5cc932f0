use Rattle.std.proofs.Common.{◌≡◌, ℕ, ◌<◌, get_or}
use Rattle.chips.specs.Chips.{block}
use Rattle.chips.proofs.spreading.spread.Given as goal

-- the octets before i are written
abbrev pub invariant-loop-i : goal.invariant-loop-i
invariant-loop-i l = (k : ℕ) → k < l.i → get_or l.out k 0 ≡ get_or (block l.bit) k 0
