-- The signal that the standard lays down for the frames of a card, in the standard's own steps and not by those of a line.
use Rattle.std.specs.Prelude.{◌≡◌, ℕ, zero, suc, ◌+◌, ◌*◌, ◌<◌, ◌≤◌, List, [], ◌∷◌, ◌++◌, map, length, take, drop, Ok, slice_index, slice_index_or}
use Rattle.coding.specs.Bits.{plus, group_bits}
use Rattle.card.specs.Card.{CardValue}
use Rattle.line.specs.Lines.{standard}
use Rattle.frame.specs.Frame.{frame_bits, frame_of}
use Rattle.chips.specs.Chips.{chips, block}
use Rattle.sender.specs.Sending.{Sending}
use Rattle.sender.specs.Takes.{calls, in_order, BetweenTakes}

-- The scrambler's generator, x^9 + x^5 + 1: nine bits, the oldest first. Its output, the sum of the oldest and the fifth, is
-- fed back.
abbrev pub output : List ℕ → ℕ
output state = plus (slice_index state 0) (slice_index state 4)

unfoldable pub generated : ℕ → List ℕ → List ℕ
generated zero state = []
generated (suc n) state = output state ∷ generated n (drop 1 state ++ (output state ∷ []))

-- the initial state, 0x41
abbrev pub initial : List ℕ
initial = 0 ∷ 0 ∷ 1 ∷ 0 ∷ 0 ∷ 0 ∷ 0 ∷ 0 ∷ 1 ∷ []

-- bits added to bits, place by place
unfoldable pub added : List ℕ → List ℕ → List ℕ
added [] ys = []
added (x ∷ xs) [] = x ∷ xs
added (x ∷ xs) (y ∷ ys) = plus x y ∷ added xs ys

-- the bits of a frame but those of the unique word are scrambled, from the initial state on in each frame
abbrev pub scrambled : List ℕ → List ℕ
scrambled frame = take 22 frame ++ added (drop 22 frame) (generated 222 initial)

-- the unique word and the scrambled bits, four times
abbrev pub repeated : List ℕ → List ℕ
repeated bits = bits ++ (bits ++ (bits ++ bits))

-- n frames of a card from the frame number k on, one after the other
unfoldable pub stream : CardValue → ℕ → ℕ → List ℕ
stream c zero k = []
stream c (suc n) k = repeated (scrambled (frame_bits (frame_of c k))) ++ stream c n (suc k)

-- the differential encoder adds to each bit what it gave before
unfoldable pub differential : ℕ → List ℕ → List ℕ
differential before [] = []
differential before (b ∷ bits) = plus b before ∷ differential (plus b before) bits

-- each bit is chipped with the same pattern
unfoldable pub chipped : List ℕ → List ℕ
chipped [] = []
chipped (b ∷ bits) = chips b ++ chipped bits

-- the chips of n frames, the differential encoder having given the bit `before` last
abbrev pub signal : CardValue → ℕ → ℕ → ℕ → List ℕ
signal c n k before = chipped (differential before (stream c n k))

-- the blocks of n takes without the block that opens each take
unfoldable pub without_openings : ℕ → List (List ℕ) → List (List ℕ)
without_openings zero blocks = []
without_openings (suc n) blocks = drop 1 (take 977 blocks) ++ without_openings n (drop 977 blocks)

-- the block before block i, the one of the last bit before all
unfoldable pub block_before : ℕ → List (List ℕ) → ℕ → List ℕ
block_before last blocks zero = block last
block_before last blocks (suc i) = slice_index_or blocks i []

-- The blocks that a sender on the standard's line writes in n takes. Without the one that opens each take they are chip for
-- chip the standard's signal; the one that opens a take repeats the one before it.
pub record OfTheStandard (n : ℕ) (s : Sending) : Type 0 where
  pub blocks : List (List ℕ)
  pub written : calls standard (n * 977) s ≡ map Ok blocks
  pub chips : group_bits 8 (in_order (without_openings n blocks)) ≡ signal s.card n s.number s.last
  pub openings : (i : ℕ) → i < n → slice_index_or blocks (i * 977) [] ≡ block_before s.last blocks (i * 977)

-- so it is of every card, from any frame and any last bit on, over any number of takes
abbrev pub StandardSignal : Type 0
StandardSignal =
    (n : ℕ) (s : Sending) → BetweenTakes standard s → length s.card.identifier ≡ 8 → s.number + n ≤ 1_000_000_000 → OfTheStandard n s
