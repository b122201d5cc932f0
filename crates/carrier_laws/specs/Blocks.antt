-- Whatever blocks arrive: a card is closed only where the takes heard before end with one unbroken round of it.
use Rattle.std.specs.Prelude.{◌≡◌, ℕ, ◌<◌, ◌≤◌, cond, List, [], ◌∷◌, ◌++◌, map, length, replicate, Ok, Result, ◌==◌}
use Rattle.std.specs.List.{AllByRecursion}
use Rattle.card.specs.Card.{CardValue}
use Rattle.line.specs.Line.{Model}
use Rattle.line.specs.Calls.{decode_output}
use Rattle.frame.specs.Judging.{judged}
use Rattle.frame.specs.declared.carried.Frame.{Frame}
use Rattle.frame.specs.declared.refusal.FrameRefusal.{FrameRefusal}
use Rattle.chips.specs.Chips.{despread}
use Rattle.sender.specs.Takes.{in_order}
use Rattle.round.specs.Rounds.{fresh, reading_after}
use Rattle.round.specs.Rounds.Answer.{closed}
use Rattle.round_laws.specs.Closings.{EndsWithRound, BeginsRound}
use Rattle.carrier.specs.Receiving.{fresh_of, on_block, receiving_after}

-- the line bits that octets are heard as; those that are not 512 are no block, and are not counted
unfoldable pub heard_bits : List (List ℕ) → List ℕ
heard_bits [] = []
heard_bits (b ∷ blocks) = cond (length b == 512) (despread b ∷ heard_bits blocks) (heard_bits blocks)

-- bits cut into whole takes of so many each, in order, and the rest, which is shorter
pub record Pieces (size : ℕ) (bits : List ℕ) : Type 0 where
  pub wholes : List (List ℕ)
  pub rest : List ℕ
  pub parts : bits ≡ in_order wholes ++ rest
  pub long : AllByRecursion (λ whole. length whole ≡ size) wholes
  pub shorter : length rest < size

-- a whole take: decoded into a blank word, and judged as a frame
abbrev pub judged_take : Model → List ℕ → Result Frame FrameRefusal
judged_take m bits = judged (decode_output m bits (replicate 244 0))

abbrev pub judged_takes : Model → List (List ℕ) → List (Result Frame FrameRefusal)
judged_takes m wholes = map (judged_take m) wholes

-- A fresh reader of takes of so many blocks, after these blocks, keeps what the whole takes left, and the bits of the unfinished one.
-- Where a card is closed on the next block, the whole takes end with one unbroken round of that card, and the take that the block
-- finishes begins the next.
pub record Reads (m : Model) (size : ℕ) (blocks : List (List ℕ)) : Type 0 where
  pub pieces : Pieces size (heard_bits blocks)
  pub keeps :
      receiving_after m (fresh_of size) blocks
      ≡ record { heard = pieces.rest; size = size; reading = reading_after fresh (judged_takes m pieces.wholes) }
  pub closes : (block : List ℕ) (d : CardValue) → (on_block m (receiving_after m (fresh_of size) blocks) block).answer ≡ Ok (closed d) →
      EndsWithRound d (judged_takes m pieces.wholes) × BeginsRound d (judged_take m (pieces.rest ++ (despread block ∷ [])))

-- on any line whose takes have a block at least
abbrev pub ClosedOnlyByRounds : Type 0
ClosedOnlyByRounds = (m : Model) → 1 ≤ m.line_length 244 → (blocks : List (List ℕ)) → Reads m (m.line_length 244) blocks
