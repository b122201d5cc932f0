-- Judging 244 received bits: which frame they are.
use Rattle.std.specs.Prelude.{◌≡◌, ℕ, ◌^◌, ◌<◌, ◌≤◌, true, cond, List, ◌++◌, length, take, drop, Ok, Err, Result, ◌==◌, nat_le}
use Rattle.std.specs.List.{AllByRecursion}
use Rattle.coding.specs.Bits.{are_bits, number, groups}
use Rattle.coding.specs.Distance.{distance}
use Rattle.coding.specs.Crc.{crc8}
use Rattle.bch.specs.Codec.{decoded}
use Rattle.bch.specs.declared.word.Corrected.{Corrected}
use Rattle.bch.specs.declared.word.CodeRefusal.{CodeRefusal}
use Rattle.frame.specs.Frame.{unique_word, frame_bits}
use Rattle.frame.specs.declared.carried.Frame.{Frame}
use Rattle.frame.specs.declared.carried.Half.{Half}
use Rattle.frame.specs.declared.refusal.FrameRefusal.{FrameRefusal}
use Rattle.frame.specs.declared.refusal.FrameRefusal.TheVariants.{UniqueWord, Codeword, Crc}

-- one step after another, as long as none refuses
abbrev pub and_then : {X Y : Type 0} → Result X FrameRefusal → (X → Result Y FrameRefusal) → Result Y FrameRefusal
and_then (Ok x) next = next x
and_then (Err e) next = Err e

-- which unique word lies within six places
abbrev pub unique_of : List ℕ → Result ℕ FrameRefusal
unique_of w =
    cond (nat_le (distance w (unique_word 0)) 6) (Ok 0) (cond (nat_le (distance w (unique_word 1)) 6) (Ok 1) (Err UniqueWord))

-- what the 61 bits of a half say
abbrev pub understood : List ℕ → Half
understood said = record {
  octets = groups 8 4 said;
  content = record { id = number (take 5 (drop 32 said)); word = number (take 24 (drop 37 said)) };
}

-- a codeword whose CRC is that of its first 61 bits
abbrev pub checked_half : ℕ → List ℕ → Result Half FrameRefusal
checked_half half c = cond (number (take 8 (drop 61 c)) == crc8 (take 61 c)) (Ok (understood (take 61 c))) (Err (Crc half))

-- the codeword within six places, if there is one, and its CRC
abbrev pub half_from : ℕ → Result Corrected CodeRefusal → Result Half FrameRefusal
half_from half (Ok a) = checked_half half a.codeword
half_from half (Err e) = Err (Codeword half)

abbrev pub judged_half : ℕ → List ℕ → Result Half FrameRefusal
judged_half half w = half_from half (decoded w)

abbrev pub frame_from : ℕ → Half → Half → Frame
frame_from u a b = record { unique = u; identifier = a.octets ++ b.octets; first = a.content; second = b.content }

-- the unique word, half 1, half 2
abbrev pub judged : List ℕ → Result Frame FrameRefusal
judged w =
    and_then (unique_of (take 22 w)) (λ u. and_then (judged_half 1 (take 111 (drop 22 w)))
    (λ a. and_then (judged_half 2 (drop 133 w)) (λ b. Ok (frame_from u a b))))

-- a frame whose parts have room in its bits
pub record Sendable (f : Frame) : Type 0 where
  pub unique : f.unique < 2
  pub eight : length f.identifier ≡ 8
  pub octets : AllByRecursion (λ o. o < 256) f.identifier
  pub first_id : f.first.id < 2 ^ 5
  pub first_word : f.first.word < 2 ^ 24
  pub second_id : f.second.id < 2 ^ 5
  pub second_word : f.second.word < 2 ^ 24

-- Bits within six places of a frame's, wherever they differ, are judged as exactly that frame.
abbrev pub JudgedAsSent : Type 0
JudgedAsSent =
    (f : Frame) (w : List ℕ) → Sendable f → length w ≡ 244 → are_bits w ≡ true → distance w (frame_bits f) ≤ 6 → judged w ≡ Ok f
