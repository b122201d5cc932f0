-- What the code's values are in the words of Rounds.antt.
use Rattle.std.specs.Prelude.{ℕ, List, take}
use Rattle.std.specs.Option.{option_map}
use Rattle.card.specs.Card.{value_of}
use Rattle.round.specs.Rounds.{State, Answer, Reading}
use Rattle.round.specs.Rounds.State.{waiting, opened, unfinished, closing}
use Rattle.round.specs.Rounds.Answer.{counted, passed_over, taken, closed}
use Rattle.round.specs.Sets.{words_by}
use Rattle.round.specs.declared.set.UnfinishedSet.{UnfinishedSet}
use Rattle.round.specs.declared.state.Round.{Round}
use Rattle.round.specs.declared.state.Round.TheVariants.{Waiting, Open, Unfinished, Closing}
use Rattle.round.specs.declared.state.Answer as code
use Rattle.round.specs.declared.state.Answer.TheVariants.{Counted, PassedOver, Taken, Closed}
use Rattle.round.specs.declared.state.RoundReader.{RoundReader}

-- the words so far
abbrev pub words_of : UnfinishedSet → List ℕ
words_of s = take (words_by s.last) s.words

abbrev pub state_of : Round → State
state_of Waiting = waiting
state_of (Open card last) = opened (value_of card) last
state_of (Unfinished card set) = unfinished (value_of card) set.last (words_of set)
state_of (Closing card) = closing (value_of card)

abbrev pub answer_of : code.Answer → Answer
answer_of Counted = counted
answer_of PassedOver = passed_over
answer_of Taken = taken
answer_of (Closed card) = closed (value_of card)

abbrev pub reading_of : RoundReader → Reading
reading_of r = record { state = state_of r.round; unique = r.unique; card = option_map value_of r.card }
