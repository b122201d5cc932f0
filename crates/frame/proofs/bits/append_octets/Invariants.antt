use Rattle.std.proofs.Common.{◌≡◌, take}
use Rattle.coding.specs.Bits.{octet_bits}
use Rattle.buffers.specs.Buffer.{text_of, appended}
use Rattle.frame.proofs.bits.append_octets.Given as goal

-- the octets before the index are appended
abbrev pub invariant-loop-octet : goal.invariant-loop-octet
invariant-loop-octet g l = text_of l.bits ≡ appended g.row.N (text_of l.initial.bits) (octet_bits (take l.octet-index l.octets))
