-- What is accepted is lawful.
use Rattle.std.proofs.Common.{◌≡◌, ℕ, ◌≤◌, Bool, true, ◌&&◌, List, length, Some, None, Ok, Option, refl, arith}
use Rattle.std.proofs.lemmas.Bool.Decides.{nat_tests}
use Rattle.card.specs.Fields.{length_within, is_telephone, is_message, missing_or}
use Rattle.std.specs.Option.{option_map}
use Rattle.card.specs.Card.{Lawful, value_of, symbols_of, octets_of, telephone_answer, message_answer}
use Rattle.card.specs.declared.card.Card.{Card}
use Rattle.card.specs.declared.fields.Telephone.{Telephone}
use Rattle.card.specs.declared.fields.Message.{Message}

pub accepted_telephone : (t : List ℕ) (u : Unit {0}) → telephone_answer t ≡ Ok u → is_telephone t ≡ true
accepted_telephone t u h = grind (arith)

pub accepted_message : (t : List ℕ) (u : Unit {0}) → message_answer t ≡ Ok u → is_message t ≡ true
accepted_message t u h = grind (arith)

-- and what is lawful is accepted
pub telephone_accepted : (t : List ℕ) → is_telephone t ≡ true → telephone_answer t ≡ Ok tt
telephone_accepted t h = grind (arith)

pub message_accepted : (t : List ℕ) → is_message t ≡ true → message_answer t ≡ Ok tt
message_accepted t h = grind (arith)

-- a lawful telephone or message is not too long
pub not_longer : (most : ℕ) (t : List ℕ) (rest : Bool) → (length_within most t && rest) ≡ true → length t ≤ most
not_longer most t rest h = grind (arith, nat_tests)

-- every card keeps its rules
pub card_lawful : (c : Card) → Lawful (value_of c)
card_lawful c = record {
  identifier = c.identifier.lawful;
  latitude = c.latitude_lawful;
  longitude = c.longitude_lawful;
  telephone = lawful_telephone c.telephone;
  message = lawful_message c.message;
}
  where
    lawful_telephone : (o : Option Telephone) → missing_or is_telephone (option_map symbols_of o) ≡ true
    lawful_telephone None = refl
    lawful_telephone (Some t) = t.lawful

    lawful_message : (o : Option Message) → missing_or is_message (option_map octets_of o) ≡ true
    lawful_message None = refl
    lawful_message (Some m) = m.lawful
