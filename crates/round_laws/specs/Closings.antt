-- Whatever is received: a card is closed only where the takes before end with one unbroken round of it.
use Rattle.std.specs.Prelude.{◌≡◌, List, [], ◌∷◌, ◌++◌, map, Ok, Result}
use Rattle.std.specs.List.{AllByRecursion}
use Rattle.card.specs.Card.{CardValue, Lawful}
use Rattle.content.specs.Sequence.{sequence}
use Rattle.content.specs.declared.entry.Content.{Content}
use Rattle.frame.specs.declared.carried.Frame.{Frame}
use Rattle.frame.specs.declared.refusal.FrameRefusal.{FrameRefusal}
use Rattle.round.specs.Rounds.{Answer, fresh, on_take, reading_after, answers_to}
use Rattle.round.specs.Rounds.Answer.{closed}
use Rattle.round.specs.declared.refusal.TakeRefusal.{TakeRefusal}
use Rattle.round_laws.specs.TwoRounds.{refusals}

-- what frames carry, half by half
unfoldable pub carried : List Frame → List Content
carried [] = []
carried (f ∷ fs) = f.first ∷ f.second ∷ carried fs

-- the answer to a take, after others from the very first on
abbrev pub answer_after : List (Result Frame FrameRefusal) → Result Frame FrameRefusal → Result Answer TakeRefusal
answer_after ts t = (on_take (reading_after fresh ts) t).answer

-- Takes end with a round of the lawful card d: accepted frames of its identifier that carry its sequence once, nothing between them.
pub record EndsWithRound (d : CardValue) (ts : List (Result Frame FrameRefusal)) : Type 0 where
  pub lawful : Lawful d
  pub earlier : List (Result Frame FrameRefusal)
  pub round : List Frame
  pub parts : ts ≡ earlier ++ map Ok round
  pub carries : carried round ≡ sequence d
  pub identified : AllByRecursion (λ f. f.identifier ≡ d.identifier) round
  pub accepted : refusals (answers_to (reading_after fresh earlier) (map Ok round)) ≡ []

-- a take is a frame of d's identifier, and its first ID is 0
pub record BeginsRound (d : CardValue) (t : Result Frame FrameRefusal) : Type 0 where
  pub frame : Frame
  pub is : t ≡ Ok frame
  pub zero : frame.first.id ≡ 0
  pub identified : frame.identifier ≡ d.identifier

abbrev pub Closings : Type 0
Closings =
    (ts : List (Result Frame FrameRefusal)) (t : Result Frame FrameRefusal) (d : CardValue)
    → answer_after ts t ≡ Ok (closed d) → EndsWithRound d ts × BeginsRound d t
