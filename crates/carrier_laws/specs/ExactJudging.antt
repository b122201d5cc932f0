-- Exactly when received bits are refused as a frame: 16 for the unique word, 17 and 18 for a half.
use Rattle.std.specs.Prelude.{◌≡◌, ℕ, ◌<◌, ◌≤◌, true, ◌↔◌, List, length, take, drop, Ok, Err, Result}
use Rattle.coding.specs.Bits.{are_bits, number}
use Rattle.coding.specs.Distance.{distance}
use Rattle.coding.specs.Crc.{crc8}
use Rattle.bch.specs.Nearest.{Near}
use Rattle.frame.specs.Frame.{unique_word}
use Rattle.frame.specs.Judging.{understood, judged_half, frame_from, judged}
use Rattle.frame.specs.declared.carried.Frame.{Frame}
use Rattle.frame.specs.declared.carried.Half.{Half}
use Rattle.frame.specs.declared.refusal.FrameRefusal.{FrameRefusal}
use Rattle.frame.specs.declared.refusal.FrameRefusal.TheVariants.{UniqueWord, Codeword, Crc}

-- the eight bits after the first 61 are their CRC
abbrev pub RightCrc : List ℕ → Type 0
RightCrc c = number (take 8 (drop 61 c)) ≡ crc8 (take 61 c)

-- a codeword lies within six places, and its CRC is wrong
pub record WrongCrc (w : List ℕ) : Type 0 where
  pub codeword : List ℕ
  pub near : Near w codeword
  pub wrong : RightCrc codeword → ⊥

-- a codeword lies within six places, its CRC is right, and its first 61 bits say x
pub record Says (w : List ℕ) (x : Half) : Type 0 where
  pub codeword : List ℕ
  pub near : Near w codeword
  pub right : RightCrc codeword
  pub is : x ≡ understood (take 61 codeword)

-- 17 comes exactly when no codeword lies within six places of a half, 18 exactly when one does and its CRC is wrong, and the half
-- is read exactly when its CRC is right.
pub record ExactHalf (half : ℕ) (w : List ℕ) : Type 0 where
  pub without_codeword : (judged_half half w ≡ Err (Codeword half)) ↔ ((c : List ℕ) → Near w c → ⊥)
  pub with_wrong_crc : (judged_half half w ≡ Err (Crc half)) ↔ WrongCrc w
  pub read : (x : Half) → (judged_half half w ≡ Ok x) ↔ Says w x

-- neither unique word lies within six places of the first 22 bits
abbrev pub NoUniqueWord : List ℕ → Type 0
NoUniqueWord w = (6 < distance (take 22 w) (unique_word 0)) × (6 < distance (take 22 w) (unique_word 1))

-- the unique word u lies within six places of them
pub record HasUniqueWord (w : List ℕ) (u : ℕ) : Type 0 where
  pub one_of_two : u < 2
  pub near : distance (take 22 w) (unique_word u) ≤ 6

-- why a half is refused
pub data RefusedHalf (half : ℕ) (w : List ℕ) : FrameRefusal → Type 0 where
  no_codeword : ((c : List ℕ) → Near w c → ⊥) → RefusedHalf half w (Codeword half)
  wrong_crc : WrongCrc w → RefusedHalf half w (Crc half)

-- the bits of half 1 and of half 2
abbrev pub first_bits : List ℕ → List ℕ
first_bits w = take 111 (drop 22 w)

abbrev pub second_bits : List ℕ → List ℕ
second_bits w = drop 133 w

-- what received bits are as a frame: the unique word is looked at first, then half 1, then half 2
pub data Verdict (w : List ℕ) : Result Frame FrameRefusal → Type 0 where
  no_unique_word : NoUniqueWord w → Verdict w (Err UniqueWord)
  in_first : {e : FrameRefusal} (u : ℕ) → HasUniqueWord w u → RefusedHalf 1 (first_bits w) e → Verdict w (Err e)
  in_second : {e : FrameRefusal} (u : ℕ) → HasUniqueWord w u → (a : Half) → Says (first_bits w) a → RefusedHalf 2 (second_bits w) e →
      Verdict w (Err e)
  accepted : (u : ℕ) → HasUniqueWord w u → (a b : Half) → Says (first_bits w) a → Says (second_bits w) b → Verdict w (Ok (frame_from u a b))

-- of every 111 bits, and of every 244
pub record ExactHalves : Type 0 where
  pub half : (half : ℕ) (w : List ℕ) → length w ≡ 111 → are_bits w ≡ true → ExactHalf half w
  pub without_unique_word : (w : List ℕ) → length w ≡ 244 → are_bits w ≡ true → (judged w ≡ Err UniqueWord) ↔ NoUniqueWord w
  pub frame : (w : List ℕ) → length w ≡ 244 → are_bits w ≡ true → (v : Result Frame FrameRefusal) → (judged w ≡ v) ↔ Verdict w v
