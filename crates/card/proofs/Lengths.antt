-- The text of every card has room on a page.
use Rattle.std.proofs.Common.{◌≡◌, ℕ, ◌*◌, ◌≤◌, ◌&&◌, List, [], ◌∷◌, ◌++◌, length, Some, None, Option, refl, arith, length-append, codes}
use Rattle.std.specs.Option.{option_map}
use Rattle.card.specs.Fields.{each, is_symbol, extension_inside, is_printing}
use Rattle.card.specs.Card.{value_of, symbols_of, octets_of}
use Rattle.card.specs.Print.{colon_octets, identifier_line, latitude_line, longitude_line, telephone_line, message_line, card_text}
use Rattle.card.specs.declared.card.Card.{Card}
use Rattle.card.specs.declared.fields.Coordinate.{Coordinate}
use Rattle.card.specs.declared.fields.Telephone.{Telephone}
use Rattle.card.specs.declared.fields.Message.{Message}
use Rattle.card.specs.declared.identifier.Identifier.{Identifier}
use Rattle.card.proofs.Accepted.{not_longer}

length_colon : (d : List ℕ) → length (colon_octets d) ≡ 3 * length d
length_colon [] = refl
length_colon (o ∷ os) = omega (arith, length_colon os)

identifier_fits : (i : Identifier) → length (identifier_line i.octets) ≤ 30
identifier_fits i = omega (arith, length-append (colon_octets i.octets) (codes "\n"), length_colon i.octets, i.eight)

latitude_fits : (o : Option Coordinate) → length (latitude_line o) ≤ 14
latitude_fits None = omega arith
latitude_fits (Some p) = omega arith

longitude_fits : (o : Option Coordinate) → length (longitude_line o) ≤ 16
longitude_fits None = omega arith
longitude_fits (Some p) = omega arith

telephone_fits : (o : Option Telephone) → length (telephone_line (option_map symbols_of o)) ≤ 23
telephone_fits None = omega arith
telephone_fits (Some t) = omega (arith, length-append (symbols_of t) (codes "\n"), not_longer 18 (symbols_of t) (each is_symbol (symbols_of t) && extension_inside (symbols_of t)) t.lawful)

message_fits : (o : Option Message) → length (message_line (option_map octets_of o)) ≤ 29
message_fits None = omega arith
message_fits (Some m) = omega (arith, length-append (octets_of m) (codes "\n"), not_longer 24 (octets_of m) (each is_printing (octets_of m)) m.lawful)

pub card_fits : (c : Card) → length (card_text (value_of c)) ≤ 112
card_fits c =
    let v = value_of c in
    let a = identifier_line v.identifier in
    let b = latitude_line v.latitude in
    let d = longitude_line v.longitude in
    let e = telephone_line v.telephone in
    let f = message_line v.message in
    omega (
      arith,
      length-append a (b ++ (d ++ (e ++ f))),
      length-append b (d ++ (e ++ f)),
      length-append d (e ++ f),
      length-append e f,
      identifier_fits c.identifier,
      latitude_fits c.latitude,
      longitude_fits c.longitude,
      telephone_fits c.telephone,
      message_fits c.message,
    )
