use Rattle.std.proofs.Common.{◌≡◌, take}
use Rattle.buffers.specs.Buffer.{text_of, appended}
use Rattle.card.specs.Print.{colon_octets}
use Rattle.card.proofs.print.put_identifier.Given as goal

-- the octets before the index are appended
abbrev pub invariant-loop-octet : goal.invariant-loop-octet
invariant-loop-octet l = text_of l.page ≡ appended 112 (text_of l.initial.page) (colon_octets (take l.octet-index l.octet-items))
