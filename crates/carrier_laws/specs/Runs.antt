-- The guarantee of two rounds is not empty.
use Rattle.std.specs.Prelude.{◌≡◌, ℕ, ◌+◌, ◌*◌, ◌<◌, ◌≤◌, true, List, Ok}
use Rattle.std.specs.List.{AllByRecursion}
use Rattle.card.specs.Card.{CardValue, Act, opened, card_after_all}
use Rattle.content.specs.Sequence.{round_length}
use Rattle.line.specs.Line.{Model, LineRules}
use Rattle.carrier.specs.Guarantee.{Run}

-- a run of the card that these nine octets and acts make, from this frame number and last bit on, where what was sent arrives
pub record Undamaged (m : Model) (nine : List ℕ) (acts : List Act) (number last : ℕ) : Type 0 where
  pub run : Run m
  pub nine_are : run.nine ≡ nine
  pub acts_are : run.acts ≡ acts
  pub number_is : run.sender.number ≡ number
  pub last_is : run.sender.last ≡ last
  pub arrives : run.arriving ≡ run.sent

-- There is one on every line that keeps the rules and takes frames, whatever card is opened and however it is acted upon, from
-- every last bit and every frame number from which the numbers last for two rounds.
abbrev pub RunsExist : Type 0
RunsExist =
    (m : Model) → LineRules m → m.takes 244 ≡ true → (nine : List ℕ) → AllByRecursion (λ o. o < 256) nine →
    (card : CardValue) → opened nine ≡ Ok card → (acts : List Act) (number last : ℕ) → last < 2 →
    number + 2 * round_length (card_after_all card acts) ≤ 1_000_000_000 → Undamaged m nine acts number last
