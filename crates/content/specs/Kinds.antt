-- The four kinds of field as content words of 24 bits.
use Rattle.std.specs.Prelude.{ℕ, ◌+◌, ◌-◌, ◌*◌, ◌/◌, ◌%◌, ◌^◌, Bool, cond, List, [], ◌∷◌, ◌++◌, map, length, replicate, ◌==◌, slice_index}
use Rattle.card.specs.Fields.{is_latitude, is_longitude, is_telephone, is_message, symbol_code}
use Rattle.card.specs.declared.fields.Coordinate.{Coordinate}
use Rattle.coding.specs.Bits.{group_bits, groups}
use Rattle.content.specs.Kind.{Kind, TakesApart}

-- one word: degrees · 10,000 + hundredths, then n bits that hold the hemisphere
abbrev pub coordinate_kind : (Coordinate → Bool) → ℕ → Kind Coordinate
coordinate_kind lawful n = record {
  lawful = lawful;
  words = λ p. ((p.degrees * 10000 + p.hundredths) * 2 ^ n + p.hemisphere) ∷ [];
  value = λ ws. record { degrees = slice_index ws 0 / 2 ^ n / 10000; hundredths = slice_index ws 0 / 2 ^ n % 10000; hemisphere = slice_index ws 0 % 2 ^ n };
}

-- 20 bits, 000, the hemisphere
abbrev pub latitude_kind : Kind Coordinate
latitude_kind = coordinate_kind is_latitude 4

-- 21 bits, 00, the hemisphere
abbrev pub longitude_kind : Kind Coordinate
longitude_kind = coordinate_kind is_longitude 3

-- How characters are laid into words: each as a group of `width` bits, `room` groups in all, the unused ones at the end holding
-- `padding`, cut into `count` words.
pub record Lettering : Type 0 where
  pub width : ℕ
  pub room : ℕ
  pub count : ℕ
  pub padding : ℕ
  pub code : ℕ → ℕ
  pub character : ℕ → ℕ

-- the groups of a text
abbrev pub laid_out : Lettering → List ℕ → List ℕ
laid_out l t = map l.code t ++ replicate (l.room - length t) l.padding

-- the groups before the first that holds padding
unfoldable pub before_padding : ℕ → List ℕ → List ℕ
before_padding p [] = []
before_padding p (x ∷ xs) = cond (x == p) [] (x ∷ before_padding p xs)

abbrev pub lettered_kind : (List ℕ → Bool) → Lettering → Kind (List ℕ)
lettered_kind lawful l = record {
  lawful = lawful;
  words = λ t. groups 24 l.count (group_bits l.width (laid_out l t));
  value = λ ws. map l.character (before_padding l.padding (groups l.width l.room (group_bits 24 ws)));
}

-- eighteen groups of four bits: digits as themselves, 1101 for e, 1111 as padding
abbrev pub telephone_lettering : Lettering
telephone_lettering = record { width = 4; room = 18; count = 3; padding = 15; code = symbol_code; character = λ g. cond (g == 13) 101 (g + 48) }

-- 24 characters of seven bits, zeros as padding
abbrev pub message_lettering : Lettering
message_lettering = record { width = 7; room = 24; count = 7; padding = 0; code = λ o. o; character = λ g. g }

abbrev pub telephone_kind : Kind (List ℕ)
telephone_kind = lettered_kind is_telephone telephone_lettering

abbrev pub message_kind : Kind (List ℕ)
message_kind = lettered_kind is_message message_lettering

-- every kind keeps the one rule
pub record KindsTakeApart : Type 0 where
  pub latitude : TakesApart latitude_kind
  pub longitude : TakesApart longitude_kind
  pub telephone : TakesApart telephone_kind
  pub message : TakesApart message_kind
