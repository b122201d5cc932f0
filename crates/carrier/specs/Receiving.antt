-- What a reader answers to each block, and what it keeps.
use Rattle.std.specs.Prelude.{ℕ, ◌+◌, cond, List, [], ◌∷◌, ◌++◌, length, replicate, Ok, Err, Result, ◌==◌}
use Rattle.buffers.specs.Buffer.{text_of}
use Rattle.line.specs.Line.{Model}
use Rattle.line.specs.Calls.{decode_output}
use Rattle.frame.specs.Judging.{judged}
use Rattle.chips.specs.Chips.{despread}
use Rattle.round.specs.Rounds.{Answer, Reading, fresh, Outcome, on_take}
use Rattle.round.specs.Rounds.Answer.{counted}
use Rattle.round.specs.Views.{reading_of}
use Rattle.round.specs.declared.refusal.TakeRefusal.{TakeRefusal}
use Rattle.carrier.specs.declared.reader.Reader.{Reader}
use Rattle.carrier.specs.declared.refusal.ReaderRefusal.{ReaderRefusal}
use Rattle.carrier.specs.declared.refusal.ReaderRefusal.TheVariants.{FrameNotTaken, BlockLength, Take}

-- Where a reader stands: the line bits heard of the take so far, how many a take has, and what is kept from take to take.
pub record Receiving : Type 0 where
  pub heard : List ℕ
  pub size : ℕ
  pub reading : Reading

abbrev pub receiving_of : {L : Type 0} → Reader L → Receiving
receiving_of r = record { heard = text_of r.heard; size = r.size; reading = reading_of r.rounds }

-- a fresh reader of takes of so many blocks
abbrev pub fresh_of : ℕ → Receiving
fresh_of size = record { heard = []; size = size; reading = fresh }

-- making a reader: the line has to take frames
unfoldable pub started : Model → Result Receiving ReaderRefusal
started m = cond (m.takes 244) (Ok (fresh_of (m.line_length 244))) (Err FrameNotTaken)

-- what a block is answered with, and where the reader stands then
pub record Received : Type 0 where
  pub answer : Result Answer ReaderRefusal
  pub after : Receiving

abbrev pub of_take : Result Answer TakeRefusal → Result Answer ReaderRefusal
of_take (Ok a) = Ok a
of_take (Err e) = Err (Take e)

-- a whole take: the line decodes its bits into a blank word, which is judged as a frame
unfoldable pub take_outcome : Model → Reading → List ℕ → Outcome
take_outcome m r bits = on_take r (judged (decode_output m bits (replicate 244 0)))

unfoldable pub on_whole : Model → Receiving → List ℕ → Received
on_whole m s bits = record {
  answer = of_take (take_outcome m s.reading bits).answer;
  after = record { heard = []; size = s.size; reading = (take_outcome m s.reading bits).after };
}

-- a block before the take's last is counted
unfoldable pub on_bit : Model → Receiving → ℕ → Received
on_bit m s bit =
    cond (length s.heard + 1 == s.size) (on_whole m s (s.heard ++ (bit ∷ [])))
    (record { answer = Ok counted; after = record { heard = s.heard ++ (bit ∷ []); size = s.size; reading = s.reading } })

-- octets that are no block are not counted
unfoldable pub on_block : Model → Receiving → List ℕ → Received
on_block m s block = cond (length block == 512) (on_bit m s (despread block)) (record { answer = Err BlockLength; after = s })

-- the answers to blocks one after the other, and the reader after them
unfoldable pub answers_to : Model → Receiving → List (List ℕ) → List (Result Answer ReaderRefusal)
answers_to m s [] = []
answers_to m s (b ∷ blocks) = (on_block m s b).answer ∷ answers_to m (on_block m s b).after blocks

unfoldable pub receiving_after : Model → Receiving → List (List ℕ) → Receiving
receiving_after m s [] = s
receiving_after m s (b ∷ blocks) = receiving_after m (on_block m s b).after blocks
