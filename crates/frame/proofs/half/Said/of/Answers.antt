use Rattle.std.proofs.Common.{◌≡◌, ℕ, List, [], ◌++◌, length, ap, ◌∙◌, append_assoc}
use Rattle.coding.specs.Bits.{are_bits, bits, octet_bits}
use Rattle.buffers.specs.Buffer.{appended, padded}
use Rattle.content.specs.declared.entry.Content.{Content}
use Rattle.frame.specs.Frame.{saying}
use Rattle.frame.proofs.Filling.{filled_by_three}
use Rattle.frame.proofs.Octets.{length_saying, saying_bits}
use Rattle.frame.proofs.half.Said.of.Goals as goal

-- the octets, the ID and the word fill the buffer
said : (os : List ℕ) (x : Content) (id p q r s : List ℕ) → id ≡ bits 5 x.id → p ≡ [] → q ≡ appended 61 p (octet_bits os) → r ≡ appended 61 q id → s ≡ appended 61 r (bits 24 x.word) → length os ≡ 4
    → padded 61 s ≡ saying os x
said os x id p q r s i empty first second third l =
    let same : (octet_bits os ++ id) ++ bits 24 x.word ≡ saying os x = append_assoc (octet_bits os) id (bits 24 x.word) ∙ ap (λ (b : List ℕ). octet_bits os ++ (b ++ bits 24 x.word)) i in
    filled_by_three 61 (octet_bits os) id p q r empty first second (bits 24 x.word) s third (ap length same ∙ length_saying os x l) ∙ same

pub invariant_of-result : goal.invariant_of-result
invariant_of-result c =
    let id : bits 5 c.from.result ≡ bits 5 c.args.content.id = ap (bits 5) c.from.ensures in
    let filled = said c.args.octets.now c.args.content (bits 5 c.from.result) _ _ _ _ id c.new-bits.ensures c.append_octets.ensures c.append_number.ensures c.append_number-2.ensures c.told-octets in
    let is : c.as_array.result.now ≡ saying c.args.octets.now c.args.content = c.as_array.ensures ∙ filled in
    record { are_bits = ap are_bits is ∙ saying_bits c.args.octets.now c.args.content; whole = ap length is ∙ length_saying c.args.octets.now c.args.content c.told-octets }

pub returns : goal.returns
returns c =
    let id : bits 5 c.from.result ≡ bits 5 c.args.content.id = ap (bits 5) c.from.ensures in
    c.as_array.ensures
    ∙ said c.args.octets.now c.args.content (bits 5 c.from.result) _ _ _ _ id c.new-bits.ensures c.append_octets.ensures c.append_number.ensures c.append_number-2.ensures c.told-octets
