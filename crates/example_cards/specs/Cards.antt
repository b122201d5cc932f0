-- What the example cards hold.
use Rattle.std.specs.Prelude.{[], ◌∷◌, Some, codes}
use Rattle.card.specs.Card.{CardValue, coordinate, blank, with_latitude, with_longitude, with_telephone, with_message}

abbrev pub bare : CardValue
bare = blank (0x00 ∷ 0x06 ∷ 0xB0 ∷ 0xFF ∷ 0xFF ∷ 0x01 ∷ 0xAC ∷ 0x07 ∷ [])

-- 1245.90 S and 2334.45 E
abbrev pub three_frames : CardValue
three_frames =
    with_telephone (Some (codes "14803332200e1835")) (with_longitude (Some (coordinate 23 3445 0)) (with_latitude (Some (coordinate 12 4590 1)) bare))

abbrev pub seven_frames : CardValue
seven_frames = with_message (Some (codes "HELLO")) three_frames
