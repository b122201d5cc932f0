-- The four kinds of field, each with its set of Content IDs.
use Rattle.std.proofs.Common.{◌≡◌, ℕ, suc, ◌+◌, ◌<◌, ◌≤◌, true, false, List, length, Some, Option, refl, ap, arith}
use Rattle.std.proofs.lemmas.Bool.Decides.{nat_tests}
use Rattle.card.specs.Card.{CardValue, with_latitude, with_longitude, with_telephone, with_message}
use Rattle.card.specs.declared.fields.Coordinate.{Coordinate}
use Rattle.coding.proofs.Groups.{length_groups}
use Rattle.content.specs.Kind.{Kind, taken_apart, TakesApart}
use Rattle.content.specs.Kinds.{latitude_kind, longitude_kind, telephone_kind, message_kind}
use Rattle.content.proofs.TakingApart.{kinds}
use Rattle.round.specs.Rounds.{begins, completes, stored, filled}

-- a field of the card, its IDs running from the first to the last
pub record Field (V : Type 0) : Type 0 where
  pub first : ℕ
  pub last : ℕ
  pub kind : Kind V
  pub put : Option V → CardValue → CardValue

abbrev pub latitude_field : Field Coordinate
latitude_field = record { first = 1; last = 1; kind = latitude_kind; put = with_latitude }

abbrev pub longitude_field : Field Coordinate
longitude_field = record { first = 2; last = 2; kind = longitude_kind; put = with_longitude }

abbrev pub telephone_field : Field (List ℕ)
telephone_field = record { first = 3; last = 5; kind = telephone_kind; put = with_telephone }

abbrev pub message_field : Field (List ℕ)
message_field = record { first = 6; last = 12; kind = message_kind; put = with_message }

-- what a round knows of a field's IDs
pub record IsSet {V : Type 0} (f : Field V) : Type 0 where
  pub rule : TakesApart f.kind
  pub some : 0 < f.first
  pub order : f.first ≤ f.last
  pub beginning : begins f.first ≡ true
  pub inside : (id : ℕ) → f.first ≤ id → id < f.last → completes id ≡ false
  pub ending : completes f.last ≡ true
  pub fills : (half : ℕ) (c : CardValue) (ws : List ℕ)
      → filled half c f.last ws ≡ stored half f.last (λ v. f.put (Some v) c) (taken_apart f.kind ws)
  pub count : (v : V) → f.first + length (f.kind.words v) ≡ suc f.last
  pub keeps : (o : Option V) (c : CardValue) → (f.put o c).identifier ≡ c.identifier

pub latitude_set : IsSet latitude_field
unfolding begins completes filled
latitude_set = record {
  rule = kinds.latitude;
  some = omega arith;
  order = omega arith;
  beginning = refl;
  inside = λ id a b. absurd (omega arith);
  ending = refl;
  fills = λ half c ws. refl;
  count = λ v. refl;
  keeps = λ o c. refl;
}

pub longitude_set : IsSet longitude_field
unfolding begins completes filled
longitude_set = record {
  rule = kinds.longitude;
  some = omega arith;
  order = omega arith;
  beginning = refl;
  inside = λ id a b. absurd (omega arith);
  ending = refl;
  fills = λ half c ws. refl;
  count = λ v. refl;
  keeps = λ o c. refl;
}

pub telephone_set : IsSet telephone_field
unfolding begins completes filled
telephone_set = record {
  rule = kinds.telephone;
  some = omega arith;
  order = omega arith;
  beginning = refl;
  inside = λ id a b. grind (arith, nat_tests);
  ending = refl;
  fills = λ half c ws. refl;
  count = λ v. ap (λ (n : ℕ). 3 + n) (length_groups 24 3 _);
  keeps = λ o c. refl;
}

pub message_set : IsSet message_field
unfolding begins completes filled
message_set = record {
  rule = kinds.message;
  some = omega arith;
  order = omega arith;
  beginning = refl;
  inside = λ id a b. grind (arith, nat_tests);
  ending = refl;
  fills = λ half c ws. refl;
  count = λ v. ap (λ (n : ℕ). 6 + n) (length_groups 24 7 _);
  keeps = λ o c. refl;
}
