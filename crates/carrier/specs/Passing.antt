-- What came of blocks that passed from a sender to a reader.
use Rattle.std.specs.Prelude.{◌≡◌, ℕ, ◌+◌, ◌*◌, cond, List, map, length, Ok, Err, Option, Result, nat_le}
use Rattle.std.specs.List.{AllByRecursion}
use Rattle.card.specs.Card.{CardValue}
use Rattle.content.specs.Sequence.{round_length}
use Rattle.line.specs.Line.{Model}
use Rattle.chips.specs.Laws.{IsBlock}
use Rattle.sender.specs.Sending.{Sending, started}
use Rattle.sender.specs.Takes.{calls}
use Rattle.sender.specs.declared.refusal.SenderRefusal.{SenderRefusal}
use Rattle.sender.specs.declared.refusal.SenderRefusal.TheVariants.{FrameNumber}
use Rattle.round.specs.Rounds.{Answer}
use Rattle.round.specs.Rounds.Answer.{counted, passed_over, taken, closed}
use Rattle.round_laws.specs.TwoRounds.{refusals, closed_cards}
use Rattle.carrier.specs.declared.refusal.ReaderRefusal.{ReaderRefusal}
use Rattle.carrier.specs.Receiving.{Receiving, fresh_of, on_block, answers_to, receiving_after}

-- how many refusals, and how many closed cards, an answer counts for
abbrev pub refused_by : {E : Type 0} → Result Answer E → ℕ
refused_by (Ok a) = 0
refused_by (Err e) = 1

abbrev pub closed_by_answer : Answer → ℕ
closed_by_answer counted = 0
closed_by_answer passed_over = 0
closed_by_answer taken = 0
closed_by_answer (closed c) = 1

abbrev pub closed_by : {E : Type 0} → Result Answer E → ℕ
closed_by (Ok a) = closed_by_answer a
closed_by (Err e) = 0

-- A reader that stood at s received one block more, which it answered so: which it is hangs on the air alone.
pub record OneMore (m : Model) (s : Receiving) (answer : Result Answer ReaderRefusal) (s' : Receiving) : Type 0 where
  pub block : List ℕ
  pub is_block : IsBlock block
  pub answered : answer ≡ (on_block m s block).answer
  pub after : s' ≡ (on_block m s block).after

-- A reader that stood at s received so many blocks: which they are hangs on the air alone. It refused and closed so often, and
-- then stands at s'.
pub record Passed (m : Model) (blocks : ℕ) (s : Receiving) (refused closed : ℕ) (s' : Receiving) : Type 0 where
  pub arriving : List (List ℕ)
  pub many : length arriving ≡ blocks
  pub are_blocks : AllByRecursion IsBlock arriving
  pub refused_is : refused ≡ length (refusals (answers_to m s arriving))
  pub closed_is : closed ≡ length (closed_cards (answers_to m s arriving))
  pub after : s' ≡ receiving_after m s arriving

-- whether the frame numbers last for two rounds
abbrev pub numbers_last : CardValue → ℕ → Result (Unit {0}) SenderRefusal
numbers_last c number = cond (nat_le (number + 2 * round_length c) 1_000_000_000) (Ok tt) (Err FrameNumber)

-- what is answered where two rounds of a card are to be sent: what making the sender is refused for, then the frame numbers
abbrev pub after_start : CardValue → ℕ → Result Sending SenderRefusal → Result (Unit {0}) SenderRefusal
after_start c number (Ok s) = numbers_last c number
after_start c number (Err e) = Err e

abbrev pub two_rounds_answer : Model → CardValue → ℕ → ℕ → Result (Unit {0}) SenderRefusal
two_rounds_answer m c number last = after_start c number (started m c number last)

-- A sender for the card c wrote the blocks of two rounds, and a fresh reader received what arrived of them.
pub record CameOf (m : Model) (c : CardValue) (number last refused closed : ℕ) (card : Option CardValue) : Type 0 where
  pub sender : Sending
  pub starts : started m c number last ≡ Ok sender
  pub sent : List (List ℕ)
  pub writes : calls m (2 * round_length c * m.line_length 244) sender ≡ map Ok sent
  pub after : Receiving
  pub passed : Passed m (length sent) (fresh_of (m.line_length 244)) refused closed after
  pub closed_card : card ≡ after.reading.card
