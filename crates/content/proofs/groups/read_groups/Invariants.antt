use Rattle.std.proofs.Common.{◌≡◌, ℕ, ◌<◌, length, get_or}
use Rattle.coding.specs.Bits.{groups}
use Rattle.content.proofs.groups.read_groups.Given as goal

-- the groups before i are read
abbrev pub invariant-loop-i : goal.invariant-loop-i
invariant-loop-i l = (k : ℕ) → k < l.i → get_or l.out k 0 ≡ get_or (groups l.width (length l.initial.out) l.bits) k 0
