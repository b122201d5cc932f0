-- The five lines that a card is printed as. Each ends in one line feed; a missing field prints its word alone.
use Rattle.std.specs.Prelude.{ℕ, zero, suc, ◌+◌, ◌/◌, ◌%◌, ◌^◌, cond, List, [], ◌∷◌, ◌++◌, length, Some, None, Ok, Err, codes, Option, Result, ◌==◌, nat_lt}
use Rattle.std.specs.List.{flat_map}
use Rattle.std.specs.Option.{option_map}
use Rattle.coding.specs.Bits.{octet_bits}
use Rattle.coding.specs.Crc.{crc8}
use Rattle.card.specs.Card.{CardValue}
use Rattle.coding.specs.Buffers.{overwritten}
use Rattle.card.specs.declared.fields.Coordinate.{Coordinate}
use Rattle.card.specs.declared.refusal.PrintRefusal.{PrintRefusal}
use Rattle.card.specs.declared.refusal.PrintRefusal.TheVariants.{ShortBuffer}

-- the character of a hexadecimal digit
abbrev pub hex_digit : ℕ → ℕ
hex_digit d = cond (nat_lt d 10) (48 + d) (55 + d)

abbrev pub hex_octet : ℕ → List ℕ
hex_octet o = hex_digit (o / 16) ∷ hex_digit (o % 16) ∷ []

-- octets in hexadecimal, each after a colon
abbrev pub colon_octets : List ℕ → List ℕ
colon_octets os = flat_map (λ o. codes ":" ++ hex_octet o) os

-- n decimal digits, the highest first
abbrev pub decimals : ℕ → ℕ → List ℕ
decimals zero x = []
decimals (suc n) x = (48 + x / 10 ^ n % 10) ∷ decimals n x

-- the check octet and the eight octets
abbrev pub identifier_line : List ℕ → List ℕ
identifier_line d = codes "id " ++ (hex_octet (crc8 (octet_bits d)) ++ (colon_octets d ++ codes "\n"))

-- minutes with two places
abbrev pub minutes_text : ℕ → List ℕ
minutes_text hundredths = decimals 2 (hundredths / 100) ++ (codes "." ++ decimals 2 (hundredths % 100))

-- degrees of n digits, minutes, and the letter of hemisphere 0 or of hemisphere 1
abbrev pub coordinate_text : ℕ → ℕ → ℕ → Coordinate → List ℕ
coordinate_text n letter0 letter1 p =
    decimals n p.degrees ++ (minutes_text p.hundredths ++ (codes " " ++ (cond (p.hemisphere == 0) letter0 letter1 ∷ [])))

-- a field's line: its word, and its text unless it is missing
abbrev pub field_line : List ℕ → Option (List ℕ) → List ℕ
field_line word None = word ++ codes "\n"
field_line word (Some text) = word ++ (codes " " ++ (text ++ codes "\n"))

-- the letters N and S
abbrev pub latitude_line : Option Coordinate → List ℕ
latitude_line o = field_line (codes "lat") (option_map (coordinate_text 2 78 83) o)

-- the letters E and W
abbrev pub longitude_line : Option Coordinate → List ℕ
longitude_line o = field_line (codes "long") (option_map (coordinate_text 3 69 87) o)

abbrev pub telephone_line : Option (List ℕ) → List ℕ
telephone_line o = field_line (codes "tel") o

abbrev pub message_line : Option (List ℕ) → List ℕ
message_line o = field_line (codes "msg") o

-- the five lines one after the other
abbrev pub card_text : CardValue → List ℕ
card_text c =
    identifier_line c.identifier ++ (latitude_line c.latitude ++ (longitude_line c.longitude
    ++ (telephone_line c.telephone ++ message_line c.message)))

-- A buffer of fewer than 112 octets, the longest text's length, is refused and left as it was; else the answer is the
-- text's length, and the octets after the text stay.
abbrev pub print_answer : CardValue → List ℕ → Result ℕ PrintRefusal
print_answer c buffer = cond (nat_lt (length buffer) 112) (Err ShortBuffer) (Ok (length (card_text c)))

abbrev pub printed : CardValue → List ℕ → List ℕ
printed c buffer = cond (nat_lt (length buffer) 112) buffer (overwritten 0 (card_text c) buffer)
