-- The lengths of what is sent.
use Rattle.std.proofs.Common.{◌≡◌, ℕ, ◌+◌, ◌*◌, ◌<◌, true, cond, eqb, List, [], ◌∷◌, ◌++◌, length, get_or, take, drop, sym, refl, ap, ◌∙◌, arith}
use Rattle.std.proofs.lemmas.List.{take_more, append-nil, append_assoc, length-append, length-take-le, length-drop}
use Rattle.coding.specs.Bits.{are_bits, bits, octet_bits}
use Rattle.coding.proofs.Words.{length_bits, bits_append, bits_bits, octets_bits}
use Rattle.content.specs.declared.entry.Content.{Content}
use Rattle.coding.specs.Crc.{crc8}
use Rattle.field.specs.Code.{encode, parity}
use Rattle.frame.specs.Frame.{unique_word, saying, checked, half_bits, frame_bits}
use Rattle.frame.specs.declared.carried.Frame.{Frame}

pub octet_bits_none : octet_bits [] ≡ []
unfolding octet_bits
octet_bits_none = refl

octet_bits_push : (os : List ℕ) (o : ℕ) → octet_bits (os ++ (o ∷ [])) ≡ octet_bits os ++ bits 8 o
unfolding octet_bits
octet_bits_push [] o = append-nil (bits 8 o)
octet_bits_push (x ∷ os) o = ap (λ (r : List ℕ). bits 8 x ++ r) (octet_bits_push os o) ∙ sym (append_assoc (bits 8 x) (octet_bits os) (bits 8 o))

pub octet_bits_take : (os : List ℕ) (i : ℕ) → i < length os → octet_bits (take i os) ++ bits 8 (get_or os i 0) ≡ octet_bits (take (i + 1) os)
octet_bits_take os i h = sym (ap octet_bits (take_more os i 0 h) ∙ octet_bits_push (take i os) (get_or os i 0))

pub length_octet_bits : (os : List ℕ) → length (octet_bits os) ≡ 8 * length os
unfolding octet_bits
length_octet_bits [] = refl
length_octet_bits (o ∷ os) = length-append (bits 8 o) (octet_bits os) ∙ omega (arith, length_bits 8 o, length_octet_bits os)

pub length_saying : (os : List ℕ) (x : Content) → length os ≡ 4 → length (saying os x) ≡ 61
length_saying os x l =
    length-append (octet_bits os) (bits 5 x.id ++ bits 24 x.word)
    ∙ omega (arith, length_octet_bits os, length-append (bits 5 x.id) (bits 24 x.word), length_bits 5 x.id, length_bits 24 x.word)

pub saying_bits : (os : List ℕ) (x : Content) → are_bits (saying os x) ≡ true
saying_bits os x =
    bits_append (octet_bits os) (bits 5 x.id ++ bits 24 x.word) (octets_bits os) (bits_append (bits 5 x.id) (bits 24 x.word) (bits_bits 5 x.id) (bits_bits 24 x.word))

pub length_half : (os : List ℕ) (x : Content) → length os ≡ 4 → length (half_bits os x) ≡ 111
unfolding encode
length_half os x l =
    let said = saying os x in
    let d = checked said in
    length-append d (bits 42 (parity d))
    ∙ omega (arith, length-append said (bits 8 (crc8 said)), length_saying os x l, length_bits 8 (crc8 said), length_bits 42 (parity d))

half_bits_lem : (os : List ℕ) (x : Content) → are_bits (half_bits os x) ≡ true
unfolding encode
half_bits_lem os x =
    let said = saying os x in
    let d = checked said in
    bits_append d (bits 42 (parity d)) (bits_append said (bits 8 (crc8 said)) (saying_bits os x) (bits_bits 8 (crc8 said))) (bits_bits 42 (parity d))

-- a frame is 244 bits, if its identifier is eight octets
pub frame_length : (f : Frame) → length f.identifier ≡ 8 → length (frame_bits f) ≡ 244
frame_length f e =
    let high = half_bits (take 4 f.identifier) f.first in
    let low = half_bits (drop 4 f.identifier) f.second in
    length-append (unique_word f.unique) (high ++ low)
    ∙ omega (
      arith,
      length_bits 22 (cond (eqb f.unique 0) 0x147147 0x2B8EB8),
      length-append high low,
      length_half (take 4 f.identifier) f.first (length-take-le 4 f.identifier (omega arith)),
      length_half (drop 4 f.identifier) f.second (length-drop 4 f.identifier ∙ omega arith),
    )

pub frame_bits_lem : (f : Frame) → are_bits (frame_bits f) ≡ true
frame_bits_lem f =
    bits_append (unique_word f.unique) (half_bits (take 4 f.identifier) f.first ++ half_bits (drop 4 f.identifier) f.second)
    (bits_bits 22 _) (bits_append (half_bits (take 4 f.identifier) f.first) (half_bits (drop 4 f.identifier) f.second) (half_bits_lem _ _) (half_bits_lem _ _))
