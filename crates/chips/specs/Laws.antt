-- The laws of the pattern, of blocks, and of what is heard of them.
use Rattle.std.specs.Prelude.{◌≡◌, ℕ, ◌+◌, ◌<◌, ◌≤◌, true, List, map, length, take, slice_index}
use Rattle.std.specs.List.{AllByRecursion}
use Rattle.coding.specs.Bits.{are_bits, plus, bits, group_bits}
use Rattle.coding.specs.Distance.{distance}
use Rattle.chips.specs.Chips.{start, pattern, chips, block, despread, flipped, lost}

-- the pattern by its rule: after the first fifteen chips, each is the sum of the chips fifteen and fourteen places before it
pub record PatternRule : Type 0 where
  pub long : length pattern ≡ 4096
  pub first : take 15 pattern ≡ start
  pub next : (n : ℕ) → n + 15 < 4096 → slice_index pattern (n + 15) ≡ plus (slice_index pattern n) (slice_index pattern (n + 1))
  pub begins : take 32 pattern ≡ bits 32 0x5091E364

-- 512 octets
pub record IsBlock (x : List ℕ) : Type 0 where
  pub long : length x ≡ 512
  pub octets : AllByRecursion (λ o. o < 256) x

-- what is written is a block, and its bits are the chips
pub record BlockChips : Type 0 where
  pub is_block : (b : ℕ) → IsBlock (block b)
  pub bits_are : (b : ℕ) → group_bits 8 (block b) ≡ chips b

-- a block in which fewer than 2,048 chips are flipped is heard as the bit that was spread
abbrev pub KeptBit : Type 0
KeptBit = (b : ℕ) → b < 2 → (heard : List ℕ) → IsBlock heard → flipped (block b) heard < 2048 → despread heard ≡ b

-- the line bits that blocks are heard as are bits, and differ from those sent in at most as many places as spread bits are lost
pub record HeardAs (sent : List ℕ) (heard : List (List ℕ)) : Type 0 where
  pub near : distance (map despread heard) sent ≤ lost (map block sent) heard
  pub are_line_bits : are_bits (map despread heard) ≡ true

abbrev pub HeardBits : Type 0
HeardBits =
    (sent : List ℕ) → are_bits sent ≡ true → (heard : List (List ℕ)) → AllByRecursion IsBlock heard → length heard ≡ length sent
    → HeardAs sent heard
