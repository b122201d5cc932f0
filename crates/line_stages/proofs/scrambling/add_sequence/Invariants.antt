use Rattle.std.proofs.Common.{◌≡◌, ℕ, ◌+◌, ◌<◌, ◌≤◌, get_or}
use Rattle.coding.specs.Bits.{plus}
use Rattle.line.specs.Stages.{sequence}
use Rattle.line.proofs.ScramblingRules.{window}
use Rattle.line_stages.proofs.scrambling.add_sequence.Given as goal

abbrev pub invariant-loop-bit : goal.invariant-loop-bit
invariant-loop-bit l = record {
  register : l.sequence.register ≡ window l.bit-index;
  added : (k : ℕ) → k < l.bit-index → get_or l.bits k 0 ≡ plus (get_or l.initial.bits k 0) (sequence (k + 9));
  others : (k : ℕ) → l.bit-index ≤ k → get_or l.bits k 0 ≡ get_or l.initial.bits k 0;
}
