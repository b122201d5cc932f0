use Rattle.std.proofs.Common.{◌≡◌, ℕ, ◌+◌, ◌<◌, get_or}
use Rattle.coding.specs.Bits.{plus}
use Rattle.line.specs.Stages.{differential}
use Rattle.line_stages.proofs.differential.DifferentialLine.decode.Given as goal

abbrev pub ghost-check_bits : goal.ghost-check_bits
ghost-check_bits a = differential

abbrev pub invariant-loop-i : goal.invariant-loop-i
invariant-loop-i l = (k : ℕ) → k < l.i → get_or l.out k 0 ≡ plus (get_or l.bits k 0) (get_or l.bits (k + 1) 0)
