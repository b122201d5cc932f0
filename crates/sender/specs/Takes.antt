-- What calls one after the other write: the takes of the card's frames.
use Rattle.std.specs.Prelude.{◌≡◌, ℕ, zero, suc, ◌+◌, ◌-◌, ◌*◌, ◌<◌, ◌≤◌, true, List, [], ◌∷◌, ◌++◌, map, length, replicate, Ok, Result, slice_index}
use Rattle.card.specs.Card.{CardValue, on_ok}
use Rattle.line.specs.Line.{Model, LineRules}
use Rattle.frame.specs.Frame.{frame_bits, frame_of}
use Rattle.chips.specs.Chips.{block}
use Rattle.sender.specs.declared.refusal.SenderRefusal.{SenderRefusal}
use Rattle.sender.specs.Sending.{Sending, next_answer, next_output, next_sending}

-- the block that a call writes into an output with room for one, or its refusal
abbrev pub room : List ℕ
room = replicate 512 0

unfoldable pub called : Model → Sending → Result (List ℕ) SenderRefusal
called m s = on_ok (λ _. next_output m s room) (next_answer s (length room))

-- n such calls, and the sender after them
unfoldable pub calls : Model → ℕ → Sending → List (Result (List ℕ) SenderRefusal)
calls m zero s = []
calls m (suc n) s = called m s ∷ calls m n (next_sending m s (length room))

unfoldable pub after_calls : Model → ℕ → Sending → Sending
after_calls m zero s = s
after_calls m (suc n) s = after_calls m n (next_sending m s (length room))

-- the line bits of the frame with the number k, after the last bit on the line before them
unfoldable pub line_bits : Model → CardValue → ℕ → ℕ → List ℕ
line_bits m c k last = m.encode (frame_bits (frame_of c k)) last

-- the last of some bits
unfoldable pub last_of : List ℕ → ℕ
last_of bits = slice_index bits (length bits - 1)

-- the take of a frame: a block for each of its line bits
unfoldable pub take_of : Model → CardValue → ℕ → ℕ → List (List ℕ)
take_of m c k last = map block (line_bits m c k last)

-- n takes from the frame number k on, each after the last bit of the one before
unfoldable pub takes_of : Model → CardValue → ℕ → ℕ → ℕ → List (List (List ℕ))
takes_of m c zero k last = []
takes_of m c (suc n) k last = take_of m c k last ∷ takes_of m c n (suc k) (last_of (line_bits m c k last))

-- the last bit on the line after them
unfoldable pub last_after : Model → CardValue → ℕ → ℕ → ℕ → ℕ
last_after m c zero k last = last
last_after m c (suc n) k last = last_after m c n (suc k) (last_of (line_bits m c k last))

-- lists one after the other
unfoldable pub in_order : {X : Type 0} → List (List X) → List X
in_order [] = []
in_order (x ∷ xs) = x ++ in_order xs

-- a sender that stands between takes, new or after whole takes
pub record BetweenTakes (m : Model) (s : Sending) : Type 0 where
  pub size : s.size ≡ m.line_length 244
  pub none_left : s.left ≡ []
  pub bit : s.last < 2

-- From between takes on, calls write the takes of n frames block by block, and leave the sender between takes.
pub record Sends (m : Model) (n : ℕ) (s : Sending) : Type 0 where
  pub blocks : calls m (n * m.line_length 244) s ≡ map Ok (in_order (takes_of m s.card n s.number s.last))
  pub after :
      after_calls m (n * m.line_length 244) s
      ≡ record { card = s.card; number = s.number + n; last = last_after m s.card n s.number s.last; size = s.size; left = [] }
  pub between : BetweenTakes m (after_calls m (n * m.line_length 244) s)

-- So it is on every line that keeps the rules and takes frames, for a card of eight identifier octets, as long as frame numbers
-- last.
abbrev pub SendsTakes : Type 0
SendsTakes =
    (m : Model) → LineRules m → m.takes 244 ≡ true → (n : ℕ) (s : Sending) → BetweenTakes m s →
    length s.card.identifier ≡ 8 → s.number + n ≤ 1_000_000_000 → Sends m n s
