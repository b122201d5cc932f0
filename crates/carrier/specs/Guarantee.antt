-- The guarantee of two rounds.
use Rattle.std.specs.Prelude.{◌≡◌, ℕ, ◌+◌, ◌*◌, ◌<◌, ◌≤◌, true, List, map, length, take, drop, Ok, ◌≢◌}
use Rattle.std.specs.List.{AllByRecursion}
use Rattle.card.specs.Card.{CardValue, Act, opened, card_after_all}
use Rattle.card.specs.Life.{standing, latitude_entry, longitude_entry, telephone_entry, message_entry, Stands}
use Rattle.content.specs.Sequence.{round_length}
use Rattle.line.specs.Line.{Model, LineRules}
use Rattle.chips.specs.Chips.{lost}
use Rattle.chips.specs.Laws.{IsBlock}
use Rattle.sender.specs.Sending.{Sending}
use Rattle.sender.specs.Takes.{calls, BetweenTakes}
use Rattle.round_laws.specs.TwoRounds.{ClosesOnce}
use Rattle.carrier.specs.Receiving.{fresh_of, answers_to}

-- the blocks of take i, counted from 0, among the blocks of takes of so many blocks each
abbrev pub nth_take : ℕ → ℕ → List (List ℕ) → List (List ℕ)
nth_take size i blocks = take size (drop (i * size) blocks)

-- A run over a line: nine octets open a card, which is acted upon; a sender for it that stands between takes writes the takes
-- of two rounds; and as many blocks arrive. A spread bit is lost where at least 2,048 of its chips arrive flipped. In each take
-- the line's growth of the number of lost spread bits is at most six.
pub record Run (m : Model) : Type 0 where
  pub nine : List ℕ
  pub octets : AllByRecursion (λ o. o < 256) nine
  pub card : CardValue
  pub opens : opened nine ≡ Ok card
  pub acts : List Act
  pub sender : Sending
  pub for_card : sender.card ≡ card_after_all card acts
  pub between : BetweenTakes m sender
  pub numbers : sender.number + 2 * round_length sender.card ≤ 1_000_000_000
  pub sent : List (List ℕ)
  pub writes : calls m (2 * round_length sender.card * m.line_length 244) sender ≡ map Ok sent
  pub arriving : List (List ℕ)
  pub many : length arriving ≡ length sent
  pub blocks : AllByRecursion IsBlock arriving
  pub bound : (i : ℕ) → i < 2 * round_length sender.card →
      m.growth (lost (nth_take (m.line_length 244) i sent) (nth_take (m.line_length 244) i arriving)) ≤ 6

-- A fresh reader that receives what arrives refuses nothing, and closes exactly one card. It has the identifier that the nine
-- octets hold, and in each field the last entry accepted since that field was last cleared or, if it never was, since opening.
pub record Delivers (m : Model) (run : Run m) : Type 0 where
  pub card : CardValue
  pub closes : ClosesOnce card (answers_to m (fresh_of (m.line_length 244)) run.arriving)
  pub stands : Stands (drop 1 run.nine) run.acts card

-- the cards of two runs have the same identifier and the same fields
pub record SameCard {m : Model} (one two : Run m) : Type 0 where
  pub identifier : drop 1 one.nine ≡ drop 1 two.nine
  pub latitude : standing 1 latitude_entry one.acts ≡ standing 1 latitude_entry two.acts
  pub longitude : standing 2 longitude_entry one.acts ≡ standing 2 longitude_entry two.acts
  pub telephone : standing 3 telephone_entry one.acts ≡ standing 3 telephone_entry two.acts
  pub message : standing 4 message_entry one.acts ≡ standing 4 message_entry two.acts

-- (a) what was sent is read, and (b) cards that differ in the identifier or in any field never arrive as the same blocks
pub record Holds (m : Model) : Type 0 where
  pub delivers : (run : Run m) → Delivers m run
  pub tells_apart : (one two : Run m) → (SameCard one two → ⊥) → one.arriving ≢ two.arriving

-- on every line that keeps the rules and takes frames
abbrev pub Guarantee : Type 0
Guarantee = (m : Model) → LineRules m → m.takes 244 ≡ true → Holds m
