-- Worked examples of every layer, from the identifier to the chips.
use Rattle.std.specs.Prelude.{◌≡◌, ℕ, List, [], ◌∷◌, map, take, Some, codes}
use Rattle.coding.specs.Bits.{bits, octet_bits}
use Rattle.coding.specs.Crc.{crc8}
use Rattle.card.specs.Card.{CardValue, coordinate, blank, with_latitude, with_longitude, with_telephone, with_message}
use Rattle.card.specs.declared.fields.Coordinate.{Coordinate}
use Rattle.content.specs.Kinds.{latitude_kind, longitude_kind, telephone_kind, message_kind}
use Rattle.content.specs.Sequence.{sequence, round_length}
use Rattle.line.specs.Lines.{standard, bench}
use Rattle.chips.specs.Chips.{pattern}
use Rattle.sender.specs.Signal.{generated, initial}

-- the Content IDs of a card's sequence, two to a frame
abbrev pub ids_of : CardValue → List ℕ
ids_of c = map (λ x. x.id) (sequence c)

-- a card with the identifier d and all four fields
abbrev pub with_all : List ℕ → Coordinate → Coordinate → List ℕ → List ℕ → CardValue
with_all d latitude longitude telephone message =
    with_message (Some message) (with_telephone (Some telephone) (with_longitude (Some longitude) (with_latitude (Some latitude) (blank d))))

pub record WorkedExamples : Type 0 where
  -- the check octet of 00:06:B0:FF:FF:01:AC:07
  pub check_octet : crc8 (octet_bits (0x00 ∷ 0x06 ∷ 0xB0 ∷ 0xFF ∷ 0xFF ∷ 0x01 ∷ 0xAC ∷ 0x07 ∷ [])) ≡ 0x75
  -- 8959.99 N and 1245.90 S, 17959.99 W and 2334.45 E
  pub north : latitude_kind.words (coordinate 89 5999 0) ≡ 0xDABFF0 ∷ []
  pub south : latitude_kind.words (coordinate 12 4590 1) ≡ 0x1E6AE1 ∷ []
  pub west : longitude_kind.words (coordinate 179 5999 1) ≡ 0xDB3CF9 ∷ []
  pub east : longitude_kind.words (coordinate 23 3445 0) ≡ 0x1C7F28 ∷ []
  pub telephone : telephone_kind.words (codes "14803332200e1835") ≡ 0x148033 ∷ 0x32200D ∷ 0x1835FF ∷ []
  pub hello : message_kind.words (codes "HELLO") ≡ 0x911664 ∷ 0xC9E000 ∷ 0 ∷ 0 ∷ 0 ∷ 0 ∷ 0 ∷ []
  -- what scrambling adds first, and the first chips
  pub scrambling : generated 16 initial ≡ bits 16 0x29DA
  pub chips : take 32 pattern ≡ bits 32 0x5091E364
  -- without a field a round is one frame 0-0, with a message alone four frames, with all fields seven, the last 12-0
  pub no_field : (d : List ℕ) → ids_of (blank d) ≡ 0 ∷ 0 ∷ []
  pub one_frame : (d : List ℕ) → round_length (blank d) ≡ 1
  pub message_alone : (d t : List ℕ) → ids_of (with_message (Some t) (blank d)) ≡ 0 ∷ 6 ∷ 7 ∷ 8 ∷ 9 ∷ 10 ∷ 11 ∷ 12 ∷ []
  pub four_frames : (d t : List ℕ) → round_length (with_message (Some t) (blank d)) ≡ 4
  pub all_fields : (d : List ℕ) (p q : Coordinate) (t u : List ℕ) →
      ids_of (with_all d p q t u) ≡ 0 ∷ 1 ∷ 2 ∷ 3 ∷ 4 ∷ 5 ∷ 6 ∷ 7 ∷ 8 ∷ 9 ∷ 10 ∷ 11 ∷ 12 ∷ 0 ∷ []
  pub seven_frames : (d : List ℕ) (p q : Coordinate) (t u : List ℕ) → round_length (with_all d p q t u) ≡ 7
  -- the most line errors that leave at most six errors in a word, and one more
  pub standard_six : standard.growth 6 ≡ 6
  pub standard_seven : standard.growth 7 ≡ 7
  pub bench_six : bench.growth 13 ≡ 6
  pub bench_seven : bench.growth 14 ≡ 7
