use Rattle.std.proofs.Common.{refl}
use Rattle.coding.specs.Bits.{number_after, groups}
use Rattle.chips.specs.Chips.{start, shift, run, pattern, chips, block}
use Rattle.chips.proofs.pattern.pattern_octets.Goals as goal

-- computed
pub returns : goal.returns
unfolding number_after groups start shift run pattern chips block
returns c = refl
