-- What a sender answers, writes and keeps, call by call.
use Rattle.std.specs.Prelude.{ℕ, suc, cond, List, [], ◌∷◌, length, take, drop, replicate, Ok, Err, Result, ◌==◌, nat_le, nat_lt, slice_index}
use Rattle.card.specs.Card.{CardValue, value_of, on_ok}
use Rattle.line.specs.Line.{Model}
use Rattle.line.specs.Calls.{encode_output}
use Rattle.frame.specs.Frame.{frame_bits, frame_of}
use Rattle.chips.specs.Chips.{block}
use Rattle.sender.specs.declared.sender.Sender.{Sender}
use Rattle.sender.specs.declared.refusal.SenderRefusal.{SenderRefusal}
use Rattle.sender.specs.declared.refusal.SenderRefusal.TheVariants.{FrameNotTaken, LastBit, FrameNumber, BlockLength}

-- Where a sender stands: its card, the number of the frame whose take is going out or comes next, the last bit on the line
-- before that take, how many line bits a take has, and the line bits of the take that are still to be sent; between takes
-- there are none.
pub record Sending : Type 0 where
  pub card : CardValue
  pub number : ℕ
  pub last : ℕ
  pub size : ℕ
  pub left : List ℕ

abbrev pub sending_of : {L : Type 0} → Sender L → Sending
sending_of s = record {
  card = value_of s.card;
  number = s.number;
  last = s.last;
  size = s.size;
  left = drop s.sent (take s.size s.bits);
}

-- Making a sender: a line that does not take frames, then the last bit, then the frame number.
abbrev pub start_answer : ℕ → ℕ → Result (Unit {0}) SenderRefusal
start_answer number last = cond (nat_lt last 2) (cond (nat_le number 999_999_999) (Ok tt) (Err FrameNumber)) (Err LastBit)

unfoldable pub started : Model → CardValue → ℕ → ℕ → Result Sending SenderRefusal
started m c number last =
    cond (m.takes 244)
    (on_ok (λ _. record { card = c; number = number; last = last; size = m.line_length 244; left = [] }) (start_answer number last))
    (Err FrameNotTaken)

-- the same sender with these line bits still to be sent
abbrev pub with_left : List ℕ → Sending → Sending
with_left bits s = record { card = s.card; number = s.number; last = s.last; size = s.size; left = bits }

-- what the line writes of the frame into a blank output
unfoldable pub begun : Model → Sending → List ℕ
begun m s = encode_output m (frame_bits (frame_of s.card s.number)) s.last (replicate s.size 0)

-- the line bits still to be sent; where none is left of a take, the next begins
unfoldable pub or_else : List ℕ → List ℕ → List ℕ
or_else [] next = next
or_else (b ∷ left) next = b ∷ left

unfoldable pub to_send : Model → Sending → List ℕ
to_send m s = or_else s.left (begun m s)

-- the sender after the first of these bits; a take's last bit is the last on the line before the next frame's take
unfoldable pub after_first : Sending → List ℕ → Sending
after_first s [] = s
after_first s (b ∷ []) = record { card = s.card; number = suc s.number; last = b; size = s.size; left = [] }
after_first s (b ∷ c ∷ left) = with_left (c ∷ left) s

unfoldable pub next_bit : Model → Sending → ℕ
next_bit m s = slice_index (to_send m s) 0

unfoldable pub moved : Model → Sending → Sending
moved m s = after_first s (to_send m s)

-- A call with room for so many octets: 15, then 14 after the last frame number.
abbrev pub call_answer : ℕ → ℕ → Result (Unit {0}) SenderRefusal
call_answer number room = cond (room == 512) (cond (nat_le number 999_999_999) (Ok tt) (Err FrameNumber)) (Err BlockLength)

abbrev pub next_answer : Sending → ℕ → Result (Unit {0}) SenderRefusal
next_answer s room = call_answer s.number room

-- what was, unless the call is accepted
unfoldable pub if_accepted : {X : Type 0} → Result (Unit {0}) SenderRefusal → X → X → X
if_accepted (Ok u) new old = new
if_accepted (Err e) new old = old

-- the output that held these octets, and the sender after the call
unfoldable pub next_output : Model → Sending → List ℕ → List ℕ
next_output m s out = if_accepted (next_answer s (length out)) (block (next_bit m s)) out

unfoldable pub next_sending : Model → Sending → ℕ → Sending
next_sending m s room = if_accepted (next_answer s room) (moved m s) s
