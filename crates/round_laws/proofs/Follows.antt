-- What a state says of the halves that led to it.
use Rattle.std.proofs.Common.{◌≡◌, ℕ, suc, ◌+◌, ◌<◌, ◌≤◌, true, ◌⊎◌, List, [], ◌∷◌, ◌++◌, length, Some, None, Ok, Err, Option, Result, sym, ap, ◌∙◌, inl, inr, append_assoc, arith}
use Rattle.std.proofs.lemmas.List.{append-nil}
use Rattle.card.specs.Card.{CardValue, Lawful}
use Rattle.content.specs.Kind.{Kind}
use Rattle.content.specs.Kinds.{latitude_kind, longitude_kind, telephone_kind, message_kind}
use Rattle.content.specs.Laws.{words_under}
use Rattle.content.specs.Sequence.{numbered, set_of, marker, field_sets}
use Rattle.content.specs.declared.entry.Content.{Content}
use Rattle.round.specs.Rounds.{State}
use Rattle.round.specs.Rounds.State.{waiting, opened, unfinished, closing}
use Rattle.round.specs.declared.refusal.TakeRefusal.{TakeRefusal}
use Rattle.round_laws.specs.HalfRules.{last_id, Unfinished, NoneHas, Valueless, Breaks}
use Rattle.round_laws.specs.HalfRules.Valueless.{no_marker, no_latitude, no_longitude, no_telephone, no_message}
use Rattle.round_laws.proofs.Sets.{Field, IsSet, latitude_field, longitude_field, telephone_field, message_field, latitude_set, longitude_set, telephone_set, message_set}

-- fields above the last ID are missing
pub record Above (c : CardValue) (last : ℕ) : Type 0 where
  pub latitude : last < 1 → c.latitude ≡ None
  pub longitude : last < 2 → c.longitude ≡ None
  pub telephone : last < 3 → c.telephone ≡ None
  pub message : last < 6 → c.message ≡ None

-- no word lies under an ID above the last
abbrev pub NoneAbove : ℕ → List Content → Type 0
NoneAbove last xs = (low high : ℕ) → last < low → words_under low high xs ≡ []

-- every set that was begun is whole
pub record Rests (c : CardValue) (last : ℕ) (xs : List Content) : Type 0 where
  pub carries : xs ≡ marker ∷ field_sets c
  pub above : Above c last
  pub last_is : last_id xs ≡ last
  pub whole : Unfinished last → ⊥
  pub alone : 1 < length xs → last ≡ 0 → ⊥
  pub none_above : NoneAbove last xs

-- part of a field's set has come
pub record Begun {V : Type 0} (f : Field V) (c : CardValue) (last : ℕ) (ws : List ℕ) (xs : List Content) : Type 0 where
  pub before : ℕ
  pub below : before < f.first
  pub above : Above c before
  pub from : f.first ≤ last
  pub short : last < f.last
  pub many : suc last ≡ f.first + length ws
  pub carries : xs ≡ (marker ∷ field_sets c) ++ numbered f.first ws
  pub last_is : last_id xs ≡ last
  pub under : words_under f.first f.last xs ≡ ws
  pub none_above : NoneAbove last xs

-- the closing 0 has come
pub record Closing (c : CardValue) (xs : List Content) : Type 0 where
  pub carries : xs ≡ (marker ∷ field_sets c) ++ (marker ∷ [])
  pub last_is : last_id xs ≡ 0
  pub more : 1 < length xs

-- a state follows from what the round of the identifier d has carried
abbrev pub Follows : List ℕ → State → List Content → Type 0
Follows d waiting xs = xs ≡ []
Follows d (opened c last) xs = Lawful c × (c.identifier ≡ d) × Rests c last xs
Follows d (unfinished c last ws) xs = Lawful c × (c.identifier ≡ d) × (Begun telephone_field c last ws xs ⊎ Begun message_field c last ws xs)
Follows d (closing c) xs = Lawful c × (c.identifier ≡ d) × Closing c xs

-- a half is in order and leads on, or it breaks a rule and is refused with what stands for it
abbrev pub Verdict : List ℕ → ℕ → List Content → Content → Result State TakeRefusal → Type 0
Verdict d half xs x r =
    ((t : State) × (r ≡ Ok t) × Follows d t (xs ++ (x ∷ [])) × ((e : TakeRefusal) → Breaks half xs x e → ⊥))
    ⊎ ((e : TakeRefusal) × (r ≡ Err e) × Breaks half xs x e)

-- what a field that is stored does to the card
pub record Extends {V : Type 0} (f : Field V) : Type 0 where
  pub set : IsSet f
  pub longer : (c : CardValue) (last : ℕ) (v : V) → Above c last → last < f.first
      → field_sets (f.put (Some v) c) ≡ field_sets c ++ numbered f.first (f.kind.words v)
  pub lawful : (c : CardValue) (v : V) → Lawful c → f.kind.lawful v ≡ true → Lawful (f.put (Some v) c)
  pub above : (c : CardValue) (last : ℕ) (v : V) → Above c last → last < f.first → Above (f.put (Some v) c) f.last
  pub rests : Unfinished f.last → ⊥
  pub quiet : (xs : List Content) (x : Content) → f.first ≤ x.id → x.id < f.last → Valueless xs x → ⊥
  pub no_value : (xs : List Content) (x : Content) → x.id ≡ f.last → Valueless xs x
      → NoneHas f.kind (words_under f.first f.last (xs ++ (x ∷ [])))
  pub from_none : (xs : List Content) (x : Content) → x.id ≡ f.last
      → NoneHas f.kind (words_under f.first f.last (xs ++ (x ∷ []))) → Valueless xs x

missing_set : {V : Type 0} (k : Kind V) (first : ℕ) (o : Option V) → o ≡ None → set_of k first o ≡ []
missing_set k first o e = ap (set_of k first) e

four : (a b c e n : List Content) → a ≡ [] → b ≡ [] → c ≡ [] → e ≡ [] → n ++ (b ++ (c ++ e)) ≡ (a ++ (b ++ (c ++ e))) ++ n
four a b c e n ha hb hc he = rw (ha, hb, hc, he) (append-nil n)

three : (a b c e n : List Content) → b ≡ [] → c ≡ [] → e ≡ [] → a ++ (n ++ (c ++ e)) ≡ (a ++ (b ++ (c ++ e))) ++ n
three a b c e n hb hc he = rw (hb, hc, he) (ap (λ (l : List Content). a ++ l) (append-nil n)
    ∙ ap (λ (l : List Content). l ++ n) (sym (append-nil a)))

two : (a b c e n : List Content) → c ≡ [] → e ≡ [] → a ++ (b ++ (n ++ e)) ≡ (a ++ (b ++ (c ++ e))) ++ n
two a b c e n hc he =
    rw (hc, he) (ap (λ (l : List Content). a ++ (b ++ l)) (append-nil n) ∙ sym (append_assoc a b n)
    ∙ ap (λ (l : List Content). (a ++ l) ++ n) (sym (append-nil b)))

one : (a b c e n : List Content) → e ≡ [] → a ++ (b ++ (c ++ n)) ≡ (a ++ (b ++ (c ++ e))) ++ n
one a b c e n he =
    rw he (ap (λ (l : List Content). a ++ (b ++ (l ++ n))) (sym (append-nil c))
    ∙ ap (λ (l : List Content). a ++ l) (sym (append_assoc b (c ++ []) n)) ∙ sym (append_assoc a (b ++ (c ++ [])) n))

module _ (c : CardValue) where
  abbrev lat : List Content
  lat = set_of latitude_kind 1 c.latitude

  abbrev lon : List Content
  lon = set_of longitude_kind 2 c.longitude

  abbrev tel : List Content
  tel = set_of telephone_kind 3 c.telephone

  abbrev msg : List Content
  msg = set_of message_kind 6 c.message

pub latitude_extends : Extends latitude_field
latitude_extends = record {
  set = latitude_set;
  longer = λ c last v a b. four (lat c) (lon c) (tel c) (msg c) (numbered 1 (latitude_kind.words v))
      (missing_set latitude_kind 1 c.latitude (a.latitude (omega arith)))
      (missing_set longitude_kind 2 c.longitude (a.longitude (omega arith)))
      (missing_set telephone_kind 3 c.telephone (a.telephone (omega arith)))
      (missing_set message_kind 6 c.message (a.message (omega arith)));
  lawful = λ c v k h. record { identifier = k.identifier; latitude = h; longitude = k.longitude; telephone = k.telephone; message = k.message };
  above = λ c last v a b. record {
    latitude = λ q. absurd (omega arith);
    longitude = λ q. a.longitude (omega arith);
    telephone = λ q. a.telephone (omega arith);
    message = λ q. a.message (omega arith);
  };
  rests = λ u. elim u [ inl p ↦ omega arith | inr p ↦ omega arith ];
  quiet = λ xs x a b v. omega arith;
  no_value = λ xs x e v. elim v [
    | no_marker z h ↦ absurd (omega arith)
    | no_latitude z h ↦ h
    | no_longitude z h ↦ absurd (omega arith)
    | no_telephone z h ↦ absurd (omega arith)
    | no_message z h ↦ absurd (omega arith)
  ];
  from_none = λ xs x e h. no_latitude e h;
}

pub longitude_extends : Extends longitude_field
longitude_extends = record {
  set = longitude_set;
  longer = λ c last v a b. three (lat c) (lon c) (tel c) (msg c) (numbered 2 (longitude_kind.words v))
      (missing_set longitude_kind 2 c.longitude (a.longitude (omega arith)))
      (missing_set telephone_kind 3 c.telephone (a.telephone (omega arith)))
      (missing_set message_kind 6 c.message (a.message (omega arith)));
  lawful = λ c v k h. record { identifier = k.identifier; latitude = k.latitude; longitude = h; telephone = k.telephone; message = k.message };
  above = λ c last v a b. record {
    latitude = λ q. absurd (omega arith);
    longitude = λ q. absurd (omega arith);
    telephone = λ q. a.telephone (omega arith);
    message = λ q. a.message (omega arith);
  };
  rests = λ u. elim u [ inl p ↦ omega arith | inr p ↦ omega arith ];
  quiet = λ xs x a b v. omega arith;
  no_value = λ xs x e v. elim v [
    | no_marker z h ↦ absurd (omega arith)
    | no_latitude z h ↦ absurd (omega arith)
    | no_longitude z h ↦ h
    | no_telephone z h ↦ absurd (omega arith)
    | no_message z h ↦ absurd (omega arith)
  ];
  from_none = λ xs x e h. no_longitude e h;
}

pub telephone_extends : Extends telephone_field
telephone_extends = record {
  set = telephone_set;
  longer = λ c last v a b. two (lat c) (lon c) (tel c) (msg c) (numbered 3 (telephone_kind.words v))
      (missing_set telephone_kind 3 c.telephone (a.telephone (omega arith)))
      (missing_set message_kind 6 c.message (a.message (omega arith)));
  lawful = λ c v k h. record { identifier = k.identifier; latitude = k.latitude; longitude = k.longitude; telephone = h; message = k.message };
  above = λ c last v a b. record {
    latitude = λ q. absurd (omega arith);
    longitude = λ q. absurd (omega arith);
    telephone = λ q. absurd (omega arith);
    message = λ q. a.message (omega arith);
  };
  rests = λ u. elim u [ inl p ↦ omega arith | inr p ↦ omega arith ];
  quiet = λ xs x a b v. elim v [
    | no_marker z h ↦ omega arith
    | no_latitude z h ↦ omega arith
    | no_longitude z h ↦ omega arith
    | no_telephone z h ↦ omega arith
    | no_message z h ↦ omega arith
  ];
  no_value = λ xs x e v. elim v [
    | no_marker z h ↦ absurd (omega arith)
    | no_latitude z h ↦ absurd (omega arith)
    | no_longitude z h ↦ absurd (omega arith)
    | no_telephone z h ↦ h
    | no_message z h ↦ absurd (omega arith)
  ];
  from_none = λ xs x e h. no_telephone e h;
}

pub message_extends : Extends message_field
message_extends = record {
  set = message_set;
  longer = λ c last v a b. one (lat c) (lon c) (tel c) (msg c) (numbered 6 (message_kind.words v))
      (missing_set message_kind 6 c.message (a.message (omega arith)));
  lawful = λ c v k h. record { identifier = k.identifier; latitude = k.latitude; longitude = k.longitude; telephone = k.telephone; message = h };
  above = λ c last v a b. record {
    latitude = λ q. absurd (omega arith);
    longitude = λ q. absurd (omega arith);
    telephone = λ q. absurd (omega arith);
    message = λ q. absurd (omega arith);
  };
  rests = λ u. elim u [ inl p ↦ omega arith | inr p ↦ omega arith ];
  quiet = λ xs x a b v. elim v [
    | no_marker z h ↦ omega arith
    | no_latitude z h ↦ omega arith
    | no_longitude z h ↦ omega arith
    | no_telephone z h ↦ omega arith
    | no_message z h ↦ omega arith
  ];
  no_value = λ xs x e v. elim v [
    | no_marker z h ↦ absurd (omega arith)
    | no_latitude z h ↦ absurd (omega arith)
    | no_longitude z h ↦ absurd (omega arith)
    | no_telephone z h ↦ absurd (omega arith)
    | no_message z h ↦ h
  ];
  from_none = λ xs x e h. no_message e h;
}
