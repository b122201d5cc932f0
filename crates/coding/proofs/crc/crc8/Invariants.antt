use Rattle.std.proofs.Common.{◌≡◌, ◌<◌, drop}
use Rattle.coding.specs.Bits.{octet_bits}
use Rattle.coding.specs.Polynomial.{remainder}
use Rattle.coding.specs.Crc.{divisor, crc8}
use Rattle.coding.proofs.crc.crc8.Given as goal

-- the octets from the index on are left to divide
abbrev pub invariant-loop-octet : goal.invariant-loop-octet
invariant-loop-octet l = (remainder 8 divisor l.rest (octet_bits (drop l.octet-index l.octets)) ≡ crc8 (octet_bits l.octets)) × (l.rest < 256)
