use Rattle.std.proofs.Common.{◌≡◌, ℕ, false, eqb, List, Some, rules}
use Rattle.std.proofs.lemmas.Bool.{ne_eqb, and_right}
use Rattle.coding.specs.Distance.{distance}
use Rattle.coding.proofs.Distances.{distance_self, distance_zero}
use Rattle.card.specs.Fields.{keeps_first_octet}
use Rattle.card.specs.Card.{CardValue}
use Rattle.round.specs.Rounds.{agrees}
use Rattle.round.proofs.state.Round.check_identifier.Goals as goal

-- the identifier of another card
other_disagrees : (c : CardValue) (d : List ℕ) → (c.identifier ≡ d → ⊥) → agrees (Some c) d ≡ false
unfolding agrees
other_disagrees c d n = and_right (keeps_first_octet d) (eqb (distance c.identifier d) 0) (ne_eqb _ 0 (λ z. n (distance_zero c.identifier d z)))

pub returns-then-is_some_and : goal.returns-then-is_some_and
returns-then-is_some_and c = search (rules, other_disagrees)

pub returns : goal.returns
unfolding agrees
returns c = search (rules, distance_self)
