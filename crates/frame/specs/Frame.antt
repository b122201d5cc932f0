-- Halves and frames: the bits that a frame is sent as, and the frames of a card.
use Rattle.std.specs.Prelude.{ℕ, ◌+◌, ◌*◌, ◌%◌, cond, List, ◌++◌, take, drop, ◌==◌, slice_index_or}
use Rattle.coding.specs.Bits.{bits, octet_bits}
use Rattle.coding.specs.Crc.{crc8}
use Rattle.field.specs.Code.{encode}
use Rattle.card.specs.Card.{CardValue}
use Rattle.content.specs.Sequence.{marker, sequence, round_length}
use Rattle.content.specs.declared.entry.Content.{Content}
use Rattle.frame.specs.declared.carried.Frame.{Frame}

-- the unique word of even frame numbers, and of odd ones
abbrev pub unique_word : ℕ → List ℕ
unique_word u = bits 22 (cond (u == 0) 0x147147 0x2B8EB8)

-- what a half says: 32 bits of the identifier, a Content ID of 5 bits and a word of 24
abbrev pub saying : List ℕ → Content → List ℕ
saying octets x = octet_bits octets ++ (bits 5 x.id ++ bits 24 x.word)

-- 61 bits, their CRC-8, and the parity of these 69
abbrev pub checked : List ℕ → List ℕ
checked said = said ++ bits 8 (crc8 said)

abbrev pub half_bits : List ℕ → Content → List ℕ
half_bits octets x = encode (checked (saying octets x))

-- the unique word, half 1 with the identifier's high octets, and half 2 with the low ones
abbrev pub frame_bits : Frame → List ℕ
frame_bits f = unique_word f.unique ++ (half_bits (take 4 f.identifier) f.first ++ half_bits (drop 4 f.identifier) f.second)

-- the frame with the number k: two neighbours of the sequence, round after round
abbrev pub frame_of : CardValue → ℕ → Frame
frame_of c k = record {
  unique = k % 2;
  identifier = c.identifier;
  first = slice_index_or (sequence c) (2 * (k % round_length c)) marker;
  second = slice_index_or (sequence c) (2 * (k % round_length c) + 1) marker;
}
