-- The kinds of field, numbered from 1 in their order.
use Rattle.std.specs.Prelude.{ℕ, cond, Ok, Err, Result, ◌==◌}
use Rattle.card.specs.declared.kinds.Field.{Field}
use Rattle.card.specs.declared.kinds.Field.TheVariants.{Latitude, Longitude, Telephone, Message}
use Rattle.card.specs.declared.refusal.CardRefusal.{CardRefusal}
use Rattle.card.specs.declared.refusal.CardRefusal.TheVariants.{NoSuchField}

-- the kind with a number
abbrev pub field_of : ℕ → Result Field CardRefusal
field_of k =
    cond (k == 1) (Ok Latitude)
    (cond (k == 2) (Ok Longitude)
    (cond (k == 3) (Ok Telephone)
    (cond (k == 4) (Ok Message) (Err NoSuchField))))
