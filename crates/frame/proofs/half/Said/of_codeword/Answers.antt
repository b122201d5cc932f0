use Rattle.std.proofs.Common.{◌∙◌, ap}
use Rattle.coding.specs.Bits.{are_bits}
use Rattle.coding.proofs.Words.{bits_take}
use Rattle.frame.proofs.half.Said.of_codeword.Goals as goal

pub invariant_of-result : goal.invariant_of-result
invariant_of-result c = record {
  are_bits = ap are_bits c.copy_from_slice.ensures.after ∙ bits_take 61 c.args.codeword.now c.requires;
  whole = c.copy_from_slice.ensures.len;
}
