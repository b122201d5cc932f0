-- The life of a card: what stands in each field after any acts, said of the acts alone.
use Rattle.std.specs.Prelude.{◌≡◌, ℕ, Bool, false, cond, ◌||◌, List, [], ◌∷◌, drop, is_ok, IfOk, Some, None, Option, ◌==◌}
use Rattle.card.specs.Card.{Act, CardValue, answer_to, opened, card_after_all}
use Rattle.card.specs.Card.Act.{enter_latitude, enter_longitude, enter_telephone, enter_message, clear_field}
use Rattle.card.specs.declared.fields.Coordinate.{Coordinate}

-- what an act enters into the field, whether it is accepted or not
abbrev pub latitude_entry : Act → Option Coordinate
latitude_entry (enter_latitude p) = Some p
latitude_entry (enter_longitude p) = None
latitude_entry (enter_telephone t) = None
latitude_entry (enter_message t) = None
latitude_entry (clear_field k) = None

abbrev pub longitude_entry : Act → Option Coordinate
longitude_entry (enter_latitude p) = None
longitude_entry (enter_longitude p) = Some p
longitude_entry (enter_telephone t) = None
longitude_entry (enter_message t) = None
longitude_entry (clear_field k) = None

abbrev pub telephone_entry : Act → Option (List ℕ)
telephone_entry (enter_latitude p) = None
telephone_entry (enter_longitude p) = None
telephone_entry (enter_telephone t) = Some t
telephone_entry (enter_message t) = None
telephone_entry (clear_field k) = None

abbrev pub message_entry : Act → Option (List ℕ)
message_entry (enter_latitude p) = None
message_entry (enter_longitude p) = None
message_entry (enter_telephone t) = None
message_entry (enter_message t) = Some t
message_entry (clear_field k) = None

-- whether an act clears the field of this number
abbrev pub clears : ℕ → Act → Bool
clears n (enter_latitude p) = false
clears n (enter_longitude p) = false
clears n (enter_telephone t) = false
clears n (enter_message t) = false
clears n (clear_field k) = k == n

unfoldable pub ever_cleared : ℕ → List Act → Bool
ever_cleared n [] = false
ever_cleared n (a ∷ rest) = clears n a || ever_cleared n rest

-- the acts after the last clearing of the field, or all of them if it never was cleared
unfoldable pub since_cleared : ℕ → List Act → List Act
since_cleared n [] = []
since_cleared n (a ∷ rest) = cond (ever_cleared n rest) (since_cleared n rest) (cond (clears n a) rest (a ∷ rest))

-- an entry before others
abbrev pub before : {V : Type 0} → Option V → List V → List V
before None rest = rest
before (Some v) rest = v ∷ rest

-- the entries into the field that were accepted, in their order
unfoldable pub accepted_entries : {V : Type 0} → (Act → Option V) → List Act → List V
accepted_entries entry [] = []
accepted_entries entry (a ∷ rest) = cond (is_ok (answer_to a)) (before (entry a) (accepted_entries entry rest)) (accepted_entries entry rest)

-- the last of a list, or `otherwise` where it is empty
unfoldable pub last_or : {V : Type 0} → Option V → List V → Option V
last_or otherwise [] = otherwise
last_or otherwise (v ∷ vs) = last_or (Some v) vs

-- the last entry accepted since the field of this number was last cleared, if there was one
abbrev pub standing : {V : Type 0} → ℕ → (Act → Option V) → List Act → Option V
standing n entry acts = last_or None (accepted_entries entry (since_cleared n acts))

-- a card with the identifier d, and in each field what stands there after the acts
pub record Stands (d : List ℕ) (acts : List Act) (c : CardValue) : Type 0 where
  pub identifier : c.identifier ≡ d
  pub latitude : c.latitude ≡ standing 1 latitude_entry acts
  pub longitude : c.longitude ≡ standing 2 longitude_entry acts
  pub telephone : c.telephone ≡ standing 3 telephone_entry acts
  pub message : c.message ≡ standing 4 message_entry acts

-- Where nine octets open a card: whatever acts follow, accepted or refused, each upon what the one before left, the card has
-- the identifier of the nine octets, and each field is the last entry accepted since that field was last cleared or, if it
-- never was, since opening; it is missing where none was accepted.
abbrev pub Lives : List ℕ → Type 0
Lives nine = (acts : List Act) → IfOk (opened nine) (λ c. Stands (drop 1 nine) acts (card_after_all c acts))
