-- Two rounds of a lawful card, from any frame on, are read without a refusal, and close that card once.
use Rattle.std.specs.Prelude.{◌≡◌, ℕ, zero, suc, ◌*◌, List, [], ◌∷◌, ◌++◌, map, Ok, Err, Result}
use Rattle.card.specs.Card.{CardValue, Lawful}
use Rattle.content.specs.Sequence.{round_length}
use Rattle.frame.specs.Frame.{frame_of}
use Rattle.frame.specs.declared.carried.Frame.{Frame}
use Rattle.round.specs.Rounds.{Answer, fresh, answers_to}
use Rattle.round.specs.Rounds.Answer.{counted, passed_over, taken, closed}

-- the frames with the numbers k, k + 1, .., n of them
unfoldable pub frames_from : CardValue → ℕ → ℕ → List Frame
frames_from c k zero = []
frames_from c k (suc n) = frame_of c k ∷ frames_from c (suc k) n

-- what was refused, in order
unfoldable pub refusals : {E : Type 0} → List (Result Answer E) → List E
refusals [] = []
refusals (Ok a ∷ rest) = refusals rest
refusals (Err e ∷ rest) = e ∷ refusals rest

-- the card that an answer closes
unfoldable pub closed_by : Answer → List CardValue
closed_by counted = []
closed_by passed_over = []
closed_by taken = []
closed_by (closed c) = c ∷ []

-- the cards that were closed, in order
unfoldable pub closed_cards : {E : Type 0} → List (Result Answer E) → List CardValue
closed_cards [] = []
closed_cards (Ok a ∷ rest) = closed_by a ++ closed_cards rest
closed_cards (Err e ∷ rest) = closed_cards rest

-- nothing is refused, and the one card that is closed is c
pub record ClosesOnce {E : Type 0} (c : CardValue) (answers : List (Result Answer E)) : Type 0 where
  pub accepted : refusals answers ≡ []
  pub closes : closed_cards answers ≡ c ∷ []

abbrev pub TwoRounds : Type 0
TwoRounds = (c : CardValue) → Lawful c → (k : ℕ) → ClosesOnce c (answers_to fresh (map Ok (frames_from c k (2 * round_length c))))
