use Rattle.std.proofs.Common.{◌≡◌, ◌^◌, ◌<◌, true, drop}
use Rattle.coding.specs.Bits.{are_bits}
use Rattle.coding.specs.Polynomial.{remainder}
use Rattle.coding.proofs.remainders.remainder.Given as goal

-- the bits from the index on are left to divide
abbrev pub invariant-loop-bit : goal.invariant-loop-bit
invariant-loop-bit g l =
    l.start < 2 ^ g.D.Divisor.DEGREE → are_bits l.bits ≡ true
    → (remainder g.D.Divisor.DEGREE g.D.Divisor.TERMS l.rest (drop l.bit-index l.bits) ≡ remainder g.D.Divisor.DEGREE g.D.Divisor.TERMS l.start l.bits)
    × (l.rest < 2 ^ g.D.Divisor.DEGREE)
