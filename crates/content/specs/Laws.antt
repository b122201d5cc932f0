-- What holds of every card's sequence, whatever its fields.
use Rattle.std.specs.Prelude.{◌≡◌, ℕ, ◌%◌, ◌^◌, ◌<◌, ◌≤◌, Bool, true, cond, ◌&&◌, List, [], ◌∷◌, map, length, None, Option, nat_le, nat_lt}
use Rattle.std.specs.List.{AllByRecursion}
use Rattle.card.specs.Card.{CardValue}
use Rattle.content.specs.Kind.{Kind, taken_apart}
use Rattle.content.specs.Kinds.{latitude_kind, longitude_kind, telephone_kind, message_kind}
use Rattle.content.specs.Sequence.{field_sets, sequence, round_length}
use Rattle.content.specs.declared.entry.Content.{Content}

-- whether numbers rise, the first above n
unfoldable pub rises_from : ℕ → List ℕ → Bool
rises_from n [] = true
rises_from n (x ∷ xs) = nat_lt n x && rises_from x xs

-- the words under the Content IDs from low to high
unfoldable pub words_under : ℕ → ℕ → List Content → List ℕ
words_under low high [] = []
words_under low high (x ∷ xs) = cond (nat_le low x.id && nat_le x.id high) (x.word ∷ words_under low high xs) (words_under low high xs)

-- a field read back from its words; without a word it is missing
abbrev pub field_from : {V : Type 0} → Kind V → List ℕ → Option V
field_from k [] = None
field_from k (w ∷ ws) = taken_apart k (w ∷ ws)

-- an entry that has room where it is sent: an ID of 5 bits and a word of 24
pub record HasRoom (x : Content) : Type 0 where
  pub id : x.id < 2 ^ 5
  pub word : x.word < 2 ^ 24

-- The count is even, a round has 1 to 7 frames, the IDs of the fields rise above the 0 before them, and the fields read back
-- from the sequence are those of the card. Every entry has room where it is sent.
pub record SequenceLaws (c : CardValue) : Type 0 where
  pub even : length (sequence c) % 2 ≡ 0
  pub some : 1 ≤ round_length c
  pub most : round_length c ≤ 7
  pub rise : rises_from 0 (map (λ x. x.id) (field_sets c)) ≡ true
  pub latitude : field_from latitude_kind (words_under 1 1 (sequence c)) ≡ c.latitude
  pub longitude : field_from longitude_kind (words_under 2 2 (sequence c)) ≡ c.longitude
  pub telephone : field_from telephone_kind (words_under 3 5 (sequence c)) ≡ c.telephone
  pub message : field_from message_kind (words_under 6 12 (sequence c)) ≡ c.message
  pub room : AllByRecursion HasRoom (sequence c)
