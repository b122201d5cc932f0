use Rattle.std.proofs.Common.{refl}
use Rattle.coding.specs.Bits.{bits, number_after, octet_bits, group_bits, groups}
use Rattle.coding.specs.Polynomial.{reduced, remainder}
use Rattle.content.specs.Sequence.{numbered}
use Rattle.chips.specs.Chips.{start, shift, run, pattern}
use Rattle.sender.specs.Signal.{generated}
use Rattle.sender.proofs.laws.worked_examples.Goals as goal

pub returns : goal.returns
unfolding bits number_after octet_bits group_bits groups reduced remainder numbered start shift run pattern generated
returns c = record {
  check_octet = refl;
  north = refl;
  south = refl;
  west = refl;
  east = refl;
  telephone = refl;
  hello = refl;
  scrambling = refl;
  chips = refl;
  no_field = λ d. refl;
  one_frame = λ d. refl;
  message_alone = λ d t. refl;
  four_frames = λ d t. refl;
  all_fields = λ d p q t u. refl;
  seven_frames = λ d p q t u. refl;
  standard_six = refl;
  standard_seven = refl;
  bench_six = refl;
  bench_seven = refl;
}
