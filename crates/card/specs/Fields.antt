-- The rules of the identifier and of the four kinds of field. Octets and symbols are numbers, a symbol the code of its character.
use Rattle.std.specs.Prelude.{ℕ, ◌-◌, ◌%◌, Bool, true, cond, not, ◌&&◌, ◌||◌, List, length, Some, None, Option, ◌==◌, nat_le, slice_index, count_by}
use Rattle.std.specs.List.{list_all}
use Rattle.card.specs.declared.fields.Coordinate.{Coordinate}

-- whether each number of a list passes a test
unfoldable pub each : (ℕ → Bool) → List ℕ → Bool
each p xs = list_all p xs

-- how often s stands in a list
abbrev pub count : ℕ → List ℕ → ℕ
count s xs = count_by (λ x. x == s) xs

-- from 1 to `most` long
abbrev pub length_within : ℕ → List ℕ → Bool
length_within most t = nat_le 1 (length t) && nat_le (length t) most

-- The rule on the first of the eight octets of an identifier: where the fourth and the fifth are FF FF its lowest bit is 0,
-- and where they are FF FE its two lowest bits are 0.
abbrev pub keeps_first_octet : List ℕ → Bool
keeps_first_octet d =
    cond (slice_index d 3 == 0xFF && slice_index d 4 == 0xFF) (slice_index d 0 % 2 == 0)
    (cond (slice_index d 3 == 0xFF && slice_index d 4 == 0xFE) (slice_index d 0 % 4 == 0) true)

-- degrees up to `most`, hundredths of a minute below a degree, and one of two hemispheres
abbrev pub is_coordinate : ℕ → Coordinate → Bool
is_coordinate most p = nat_le p.degrees most && (nat_le p.hundredths 5999 && nat_le p.hemisphere 1)

-- hemisphere 0 is north, 1 south
abbrev pub is_latitude : Coordinate → Bool
is_latitude p = is_coordinate 90 p

-- hemisphere 0 is east, 1 west
abbrev pub is_longitude : Coordinate → Bool
is_longitude p = is_coordinate 180 p

-- the characters 0 to 9, and e, which stands for an extension
abbrev pub is_symbol : ℕ → Bool
is_symbol s = (nat_le 48 s && nat_le s 57) || s == 101

-- the four-bit code of a symbol: a digit as itself, 13 for e
abbrev pub symbol_code : ℕ → ℕ
symbol_code s = cond (s == 101) 13 (s - 48)

-- e comes at most once, neither first nor last
abbrev pub extension_inside : List ℕ → Bool
extension_inside t = nat_le (count 101 t) 1 && (not (slice_index t 0 == 101) && not (slice_index t (length t - 1) == 101))

abbrev pub is_telephone : List ℕ → Bool
is_telephone t = length_within 18 t && (each is_symbol t && extension_inside t)

-- a printing character
abbrev pub is_printing : ℕ → Bool
is_printing o = nat_le 32 o && nat_le o 126

abbrev pub is_message : List ℕ → Bool
is_message t = length_within 24 t && each is_printing t

-- a missing field keeps every rule
abbrev pub missing_or : {V : Type 0} → (V → Bool) → Option V → Bool
missing_or lawful None = true
missing_or lawful (Some v) = lawful v
