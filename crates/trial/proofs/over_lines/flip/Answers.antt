use Rattle.std.proofs.Common.{get_or, arith, lit<}
use lib.Bits.{bit_xor, xor_lt}
use Rattle.coding.proofs.Distances.{distance_self}
use Rattle.line.proofs.Distances.{distance_set}
use Rattle.line.proofs.Sums.{bit_at, bits_set}
use Rattle.trial.proofs.over_lines.flip.Goals as goal
use Rattle.trial.proofs.over_lines.flip.Goals.{then-place-bits, else-place-bits}

pub loop-place-init : goal.loop-place-init
loop-place-init c = (c.requires, omega (arith, distance_self c.args.bits.now))

pub loop-place-preserved : goal.loop-place-preserved
loop-place-preserved c =
    let bits = c.loop-place.bits in
    let place = get_or c.args.places.now c.loop-place.place-index 0 in
    elim c.if-place-bits.branch [
      | then-place-bits w ↦
          rw w.bits-is (
            bits_set bits place _ c.loop-place.invariant.0
                (xor_lt 1 (get_or bits place 0) 1 (bit_at bits c.loop-place.invariant.0 place) (lit< tt)),
            omega (arith, c.loop-place.invariant.1, distance_set bits c.args.bits.now place (bit_xor (get_or bits place 0) 1)),
          )
      | else-place-bits w ↦ rw w.bits-is (c.loop-place.invariant.0, omega (arith, c.loop-place.invariant.1))
    ]
