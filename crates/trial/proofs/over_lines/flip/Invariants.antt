use Rattle.std.proofs.Common.{◌≡◌, ◌≤◌, true}
use Rattle.coding.specs.Bits.{are_bits}
use Rattle.coding.specs.Distance.{distance}
use Rattle.trial.proofs.over_lines.flip.Given as goal

abbrev pub invariant-loop-place : goal.invariant-loop-place
invariant-loop-place l = (are_bits l.bits ≡ true) × (distance l.bits l.initial.bits ≤ l.place-index)
