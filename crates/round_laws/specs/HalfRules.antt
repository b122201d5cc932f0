-- The rules of a half in a round, and the refusal that stands for each, told from the contents that its round has carried before it.
use Rattle.std.specs.Prelude.{◌≡◌, ℕ, suc, ◌<◌, ◌≤◌, true, ◌⊎◌, List, [], ◌∷◌, ◌++◌, length, ◌≢◌}
use Rattle.content.specs.Kind.{Kind}
use Rattle.content.specs.Kinds.{latitude_kind, longitude_kind, telephone_kind, message_kind}
use Rattle.content.specs.Laws.{words_under}
use Rattle.content.specs.declared.entry.Content.{Content}
use Rattle.round.specs.declared.refusal.TakeRefusal.{TakeRefusal}
use Rattle.round.specs.declared.refusal.TakeRefusal.TheVariants.{ContentId, NoValue, BrokenOff}

-- the last Content ID; before the first it counts as 0
unfoldable pub last_id : List Content → ℕ
last_id [] = 0
last_id (x ∷ []) = x.id
last_id (x ∷ y ∷ xs) = last_id (y ∷ xs)

-- a telephone, of IDs 3 to 5, or a message, of 6 to 12, is unfinished after this ID
abbrev pub Unfinished : ℕ → Type 0
Unfinished id = ((3 ≤ id) × (id ≤ 4)) ⊎ ((6 ≤ id) × (id ≤ 11))

-- a set's first ID
abbrev pub BeginsSet : ℕ → Type 0
BeginsSet id = (id ≡ 1) ⊎ ((id ≡ 2) ⊎ ((id ≡ 3) ⊎ (id ≡ 6)))

-- Refusal 23: after what its round has carried, a half has ID 0 while a telephone or a message is unfinished.
pub record BreaksOff (xs : List Content) (x : Content) : Type 0 where
  pub zero : x.id ≡ 0
  pub unfinished : Unfinished (last_id xs)

-- Why an ID other than 0 is out of order: it does not rise; a set is unfinished and this is not its next ID; none is, and this is no
-- set's first ID; the closing 0 came before it; no set has it.
pub data Misplaced (xs : List Content) (id : ℕ) : Type 0 where
  not_above_last : id ≤ last_id xs → Misplaced xs id
  skips_in_set : Unfinished (last_id xs) → (id ≢ suc (last_id xs)) → Misplaced xs id
  enters_set_late : (Unfinished (last_id xs) → ⊥) → (BeginsSet id → ⊥) → Misplaced xs id
  follows_closing : 1 < length xs → last_id xs ≡ 0 → Misplaced xs id
  above_twelve : 12 < id → Misplaced xs id

-- Refusal 21.
pub record OutOfOrder (xs : List Content) (x : Content) : Type 0 where
  pub other : x.id ≡ 0 → ⊥
  pub misplaced : Misplaced xs x.id

-- no lawful value of a kind has these words
abbrev pub NoneHas : {V : Type 0} → Kind V → List ℕ → Type 0
NoneHas {V} k ws = (v : V) → k.lawful v ≡ true → k.words v ≢ ws

-- Refusal 22: ID 0 comes with another word than 0x000001, or a set ends and its words are those of no lawful value.
pub data Valueless (xs : List Content) (x : Content) : Type 0 where
  no_marker : x.id ≡ 0 → (x.word ≢ 0x000001) → Valueless xs x
  no_latitude : x.id ≡ 1 → NoneHas latitude_kind (words_under 1 1 (xs ++ (x ∷ []))) → Valueless xs x
  no_longitude : x.id ≡ 2 → NoneHas longitude_kind (words_under 2 2 (xs ++ (x ∷ []))) → Valueless xs x
  no_telephone : x.id ≡ 5 → NoneHas telephone_kind (words_under 3 5 (xs ++ (x ∷ []))) → Valueless xs x
  no_message : x.id ≡ 12 → NoneHas message_kind (words_under 6 12 (xs ++ (x ∷ []))) → Valueless xs x

-- The rule that a half breaks, after what its round has carried, and the refusal that stands for it. Order is looked at before values.
pub data Breaks (half : ℕ) (xs : List Content) (x : Content) : TakeRefusal → Type 0 where
  breaks_off : BreaksOff xs x → Breaks half xs x (BrokenOff half 0)
  out_of_order : OutOfOrder xs x → Breaks half xs x (ContentId half x.id)
  valueless : (BreaksOff xs x → ⊥) → (OutOfOrder xs x → ⊥) → Valueless xs x → Breaks half xs x (NoValue half x.id)
