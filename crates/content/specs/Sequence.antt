-- The sequence of a card: its content, in the order in which it is sent, over and over.
use Rattle.std.specs.Prelude.{ℕ, suc, ◌/◌, ◌%◌, cond, List, [], ◌∷◌, ◌++◌, length, Some, None, Option, ◌==◌}
use Rattle.card.specs.Card.{CardValue}
use Rattle.content.specs.Kind.{Kind}
use Rattle.content.specs.Kinds.{latitude_kind, longitude_kind, telephone_kind, message_kind}
use Rattle.content.specs.declared.entry.Content.{Content}

-- words under ascending Content IDs
unfoldable pub numbered : ℕ → List ℕ → List Content
numbered id [] = []
numbered id (w ∷ ws) = record { id = id; word = w } ∷ numbered (suc id) ws

-- a field's set of IDs, from its first on; a missing field has none
abbrev pub set_of : {V : Type 0} → Kind V → ℕ → Option V → List Content
set_of k first None = []
set_of k first (Some v) = numbered first (k.words v)

-- ID 0 marks the sequence's beginning
abbrev pub marker : Content
marker = record { id = 0; word = 0x000001 }

abbrev pub field_sets : CardValue → List Content
field_sets c =
    set_of latitude_kind 1 c.latitude ++ (set_of longitude_kind 2 c.longitude
    ++ (set_of telephone_kind 3 c.telephone ++ set_of message_kind 6 c.message))

-- a second ID 0 ends a list whose count would be odd
abbrev pub evened : List Content → List Content
evened xs = cond (length xs % 2 == 1) (xs ++ (marker ∷ [])) xs

abbrev pub sequence : CardValue → List Content
sequence c = evened (marker ∷ field_sets c)

-- a frame carries two neighbours of the sequence
abbrev pub round_length : CardValue → ℕ
round_length c = length (sequence c) / 2
