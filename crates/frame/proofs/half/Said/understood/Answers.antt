use Rattle.std.proofs.Common.{◌≡◌, [], ◌∷◌, sym, ◌∙◌, lit≤}
use Rattle.coding.specs.Bits.{groups}
use Rattle.frame.proofs.Reading.{part_number, four_octets}
use Rattle.frame.proofs.half.Said.understood.Goals as goal

pub returns : goal.returns
returns c =
    let s = c.args.self.now in
    let os : c.small.result ∷ c.small-2.result ∷ c.small-3.result ∷ c.small-4.result ∷ [] ≡ groups 8 4 s.bits =
    (λ i. c.small.ensures i ∷ c.small-2.ensures i ∷ c.small-3.ensures i ∷ c.small-4.ensures i ∷ []) ∙ sym (four_octets s.bits)
    in
    let w = part_number 37 24 c.read_bits.result s.bits (lit≤ tt) s.are_bits c.read_bits.ensures in
    λ i. record { octets = os i; content = record { id = c.small-5.ensures i; word = w i } }
