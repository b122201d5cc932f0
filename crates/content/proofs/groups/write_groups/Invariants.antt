use Rattle.std.proofs.Common.{◌≡◌, ◌*◌, ◌++◌, take, drop}
use Rattle.coding.specs.Bits.{group_bits}
use Rattle.content.proofs.groups.write_groups.Given as goal

-- the groups before i are written
abbrev pub invariant-loop-i : goal.invariant-loop-i
invariant-loop-i l = l.out ≡ group_bits l.width (take l.i l.groups) ++ drop (l.i * l.width) l.initial.out
