-- A card as plain data, and what opening, entering and clearing make of it.
use Rattle.std.specs.Prelude.{◌≡◌, ℕ, ◌+◌, Bool, true, cond, ◌&&◌, List, [], ◌∷◌, length, drop, is_ok, Some, None, Ok, Err, Option, Result, ◌==◌, nat_le, slice_index}
use Rattle.std.specs.List.{prefix_len}
use Rattle.std.specs.Option.{option_map}
use Rattle.std.specs.Result.{result_and}
use Rattle.buffers.specs.Buffer.{text_of}
use Rattle.coding.specs.Bits.{octet_bits}
use Rattle.coding.specs.Crc.{crc8}
use Rattle.card.specs.Fields.{each, length_within, keeps_first_octet, is_latitude, is_longitude, is_symbol, extension_inside, is_telephone, is_printing, is_message, missing_or}
use Rattle.card.specs.declared.card.Card.{Card}
use Rattle.card.specs.declared.fields.Coordinate.{Coordinate}
use Rattle.card.specs.declared.fields.Telephone.{Telephone}
use Rattle.card.specs.declared.fields.Message.{Message}
use Rattle.card.specs.declared.refusal.CardRefusal.{CardRefusal}
use Rattle.card.specs.declared.refusal.CardRefusal.TheVariants.{NotNineOctets, CheckOctet, FirstOctet, Latitude, Longitude, TelephoneLength, TelephoneSymbol, TelephoneExtension, MessageLength, MessageOctet, NoSuchField}

-- what a card holds: its identifier's eight octets, and each field or that it is missing
pub record CardValue : Type 0 where
  pub identifier : List ℕ
  pub latitude : Option Coordinate
  pub longitude : Option Coordinate
  pub telephone : Option (List ℕ)
  pub message : Option (List ℕ)

abbrev pub symbols_of : Telephone → List ℕ
symbols_of t = text_of t.symbols

abbrev pub octets_of : Message → List ℕ
octets_of m = text_of m.octets

abbrev pub value_of : Card → CardValue
value_of c = record {
  identifier = c.identifier.octets;
  latitude = c.latitude;
  longitude = c.longitude;
  telephone = option_map symbols_of c.telephone;
  message = option_map octets_of c.message;
}

-- a value that keeps the rules of identifier and fields, as every card's does
pub record Lawful (c : CardValue) : Type 0 where
  pub identifier : keeps_first_octet c.identifier ≡ true
  pub latitude : missing_or is_latitude c.latitude ≡ true
  pub longitude : missing_or is_longitude c.longitude ≡ true
  pub telephone : missing_or is_telephone c.telephone ≡ true
  pub message : missing_or is_message c.message ≡ true

-- what an answer holds where it accepts, seen by f
abbrev pub on_ok : {T U E : Type 0} → (T → U) → Result T E → Result U E
on_ok f (Ok x) = Ok (f x)
on_ok f (Err e) = Err e

-- Opening: nine octets, the check octet first, which is the CRC-8 of the 64 bits that follow.
abbrev pub identifier_of : List ℕ → Result (List ℕ) CardRefusal
identifier_of nine =
    cond (length nine == 9)
    (cond (slice_index nine 0 == crc8 (octet_bits (drop 1 nine)))
    (cond (keeps_first_octet (drop 1 nine)) (Ok (drop 1 nine)) (Err FirstOctet))
    (Err CheckOctet))
    (Err NotNineOctets)

-- every field of an opened card is missing
abbrev pub blank : List ℕ → CardValue
blank d = record { identifier = d; latitude = None; longitude = None; telephone = None; message = None }

abbrev pub opened : List ℕ → Result CardValue CardRefusal
opened nine = on_ok blank (identifier_of nine)

-- What can be done to a card: to enter a field with any numbers or octets, and to clear the field of any number.
pub data Act : Type 0 where
  enter_latitude : Coordinate → Act
  enter_longitude : Coordinate → Act
  enter_telephone : List ℕ → Act
  enter_message : List ℕ → Act
  clear_field : ℕ → Act

abbrev pub coordinate : ℕ → ℕ → ℕ → Coordinate
coordinate d h s = record { degrees = d; hundredths = h; hemisphere = s }

-- the place, counted from 1, of the first number that fails a test
abbrev pub first_failing : (ℕ → Bool) → List ℕ → ℕ
first_failing p xs = prefix_len p xs + 1

-- accepted where the test holds, else refused
abbrev pub unless : CardRefusal → Bool → Result (Unit {0}) CardRefusal
unless e test = cond test (Ok tt) (Err e)

abbrev pub symbols_answer : List ℕ → Result (Unit {0}) CardRefusal
symbols_answer t = unless (TelephoneSymbol (first_failing is_symbol t)) (each is_symbol t)

abbrev pub telephone_answer : List ℕ → Result (Unit {0}) CardRefusal
telephone_answer t = result_and (unless TelephoneLength (length_within 18 t)) (result_and (symbols_answer t) (unless TelephoneExtension (extension_inside t)))

abbrev pub octets_answer : List ℕ → Result (Unit {0}) CardRefusal
octets_answer t = unless (MessageOctet (first_failing is_printing t)) (each is_printing t)

abbrev pub message_answer : List ℕ → Result (Unit {0}) CardRefusal
message_answer t = result_and (unless MessageLength (length_within 24 t)) (octets_answer t)

-- The answer to an act: accepted, or its refusal, the checks in the order written.
abbrev pub answer_to : Act → Result (Unit {0}) CardRefusal
answer_to (enter_latitude p) = unless Latitude (is_latitude p)
answer_to (enter_longitude p) = unless Longitude (is_longitude p)
answer_to (enter_telephone t) = telephone_answer t
answer_to (enter_message t) = message_answer t
answer_to (clear_field k) = unless NoSuchField (nat_le 1 k && nat_le k 4)

abbrev pub with_latitude : Option Coordinate → CardValue → CardValue
with_latitude o c = record { identifier = c.identifier; latitude = o; longitude = c.longitude; telephone = c.telephone; message = c.message }

abbrev pub with_longitude : Option Coordinate → CardValue → CardValue
with_longitude o c = record { identifier = c.identifier; latitude = c.latitude; longitude = o; telephone = c.telephone; message = c.message }

abbrev pub with_telephone : Option (List ℕ) → CardValue → CardValue
with_telephone o c = record { identifier = c.identifier; latitude = c.latitude; longitude = c.longitude; telephone = o; message = c.message }

abbrev pub with_message : Option (List ℕ) → CardValue → CardValue
with_message o c = record { identifier = c.identifier; latitude = c.latitude; longitude = c.longitude; telephone = c.telephone; message = o }

-- what an accepted act makes of a card; the fields are numbered in their order
abbrev pub written : Act → CardValue → CardValue
written (enter_latitude p) c = with_latitude (Some p) c
written (enter_longitude p) c = with_longitude (Some p) c
written (enter_telephone t) c = with_telephone (Some t) c
written (enter_message t) c = with_message (Some t) c
written (clear_field k) c =
    cond (k == 1) (with_latitude None c)
    (cond (k == 2) (with_longitude None c)
    (cond (k == 3) (with_telephone None c) (with_message None c)))

-- The card after an act: a refused one alters nothing.
abbrev pub card_after : CardValue → Act → CardValue
card_after c a = cond (is_ok (answer_to a)) (written a c) c

-- The card after a list of acts, each upon what the one before left.
unfoldable pub card_after_all : CardValue → List Act → CardValue
card_after_all c [] = c
card_after_all c (a ∷ rest) = card_after_all (card_after c a) rest
