use Rattle.std.proofs.Common.{◌≡◌, ℕ, ◌<◌, length, get_or}
use Rattle.coding.specs.Bits.{bits}
use Rattle.coding.proofs.values.write_long.Given as goal

-- the bits before i are written
abbrev pub invariant-loop-i : goal.invariant-loop-i
invariant-loop-i l = (k : ℕ) → k < l.i → get_or l.out k 0 ≡ get_or (bits (length l.initial.out) l.value) k 0
