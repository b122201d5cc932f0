-- The frames of a lawful card have room in their bits.
use Rattle.std.proofs.Common.{ℕ, ◌+◌, ◌*◌, ◌%◌, ◌<◌, length, get_or, mod-lt, arith}
use Rattle.std.proofs.ByRecursion.{All-get_or}
use Rattle.card.specs.Card.{CardValue, Lawful}
use Rattle.content.specs.Laws.{HasRoom}
use Rattle.content.specs.Sequence.{marker, sequence, round_length}
use Rattle.content.proofs.ReadBack.{sequence_laws}
use Rattle.round_laws.specs.Room.{FramesHaveRoom}

-- an entry of the sequence
room_at : (c : CardValue) → Lawful c → (i : ℕ) → i < length (sequence c) → HasRoom (get_or (sequence c) i marker)
room_at c l i h = All-get_or HasRoom (sequence c) i marker h (sequence_laws c l).room

pub frames_have_room : FramesHaveRoom
frames_have_room c l eight octets k =
    let laws = sequence_laws c l in
    let some : 0 < round_length c = laws.some in
    let here : k % round_length c < round_length c = mod-lt k some in
    let a = room_at c l (2 * (k % round_length c)) (omega (arith, laws.even)) in
    let b = room_at c l (2 * (k % round_length c) + 1) (omega (arith, laws.even)) in
    record {
      unique = mod-lt k (omega arith);
      eight = eight;
      octets = octets;
      first_id = a.id;
      first_word = a.word;
      second_id = b.id;
      second_word = b.word;
    }
