-- The block of a spread bit: its octets and its chips.
use Rattle.std.proofs.Common.{◌≡◌, ℕ, zero, suc, ◌*◌, ◌%◌, ◌<◌, true, List, [], ◌∷◌, map, length, get_or, sym, refl, ap, ◌∙◌, ap₂, arith}
use lib.Bits.{bit_xor, xor_zero_r}
use Rattle.std.proofs.lemmas.List.{length-map, get_or-map, ext_get_or}
use Rattle.coding.specs.Bits.{are_bits, plus, number_after, groups, group_bits}
use Rattle.coding.proofs.Words.{bits_parts, bits_join}
use Rattle.coding.proofs.Groups.{length_groups, bits_of_groups, groups_below}
use Rattle.chips.specs.Chips.{start, shift, run, pattern, chips, block}
use Rattle.chips.specs.Laws.{IsBlock, BlockChips}
use Rattle.chips.proofs.Patterns.{pattern_length, pattern_bits}

-- ---- the chips of a spread bit
chips_length : (b : ℕ) → length (chips b) ≡ 4096
unfolding chips
chips_length b = length-map pattern (plus b) ∙ pattern_length

sums_bits : (b : ℕ) (w : List ℕ) → are_bits (map (plus b) w) ≡ true
sums_bits b [] = refl
sums_bits b (p ∷ w) = bits_join (plus b p) (map (plus b) w) (omega arith) (sums_bits b w)

chips_bits : (b : ℕ) → are_bits (chips b) ≡ true
unfolding chips
chips_bits b = sums_bits b pattern

-- a 0 is spread as the pattern itself
sums_zero : (w : List ℕ) → are_bits w ≡ true → map (plus 0) w ≡ w
sums_zero [] h = refl
sums_zero (p ∷ w) h =
    let q = bits_parts p w h in
    let e : plus 0 p ≡ p = omega (arith, q.0) in
    ap₂ (λ (a : ℕ) (r : List ℕ). a ∷ r) e (sums_zero w q.1)

pub chips_zero : chips 0 ≡ pattern
unfolding chips
chips_zero = sums_zero pattern pattern_bits

-- of a number only the lowest bit counts
sums_low : (b : ℕ) (w : List ℕ) → map (plus (b % 2)) w ≡ map (plus b) w
sums_low b [] = refl
sums_low b (p ∷ w) = let e : plus (b % 2) p ≡ plus b p = omega arith in ap₂ (λ (a : ℕ) (r : List ℕ). a ∷ r) e (sums_low b w)

block_low : (b : ℕ) → block (b % 2) ≡ block b
unfolding block chips
block_low b = ap (groups 8 512) (sums_low b pattern)

-- ---- its octets
pub block_is : (b : ℕ) → IsBlock (block b)
unfolding block
block_is b = record { long = length_groups 8 512 (chips b); octets = groups_below 8 512 (chips b) (chips_bits b) }

pub block_chips : (b : ℕ) → group_bits 8 (block b) ≡ chips b
unfolding block
block_chips b = bits_of_groups 8 512 (chips b) (chips_length b) (chips_bits b)

pub block_law : BlockChips
block_law = record { is_block = block_is; bits_are = block_chips }

-- the block of 1 is the pattern with every bit turned: computed
block_one : block 1 ≡ map (λ o. bit_xor o 255) (block 0)
unfolding number_after groups start shift run pattern chips block
block_one = refl

masked_bit : (b i : ℕ) → b < 2 → i < 512 → bit_xor (get_or (block 0) i 0) (255 * b) ≡ get_or (block b) i 0
masked_bit zero i h k = xor_zero_r (get_or (block 0) i 0)
masked_bit (suc zero) i h k =
    sym (ap (λ (z : List ℕ). get_or z i 0) block_one ∙ get_or-map (λ o. bit_xor o 255) (block 0) i 0 0 (omega (arith, (block_is 0).long)))
masked_bit (suc (suc b)) i h k = absurd (omega arith)

-- an octet of the pattern, turned where a 1 is spread
pub masked : (b i : ℕ) → i < 512 → bit_xor (get_or (block 0) i 0) (255 * (b % 2)) ≡ get_or (block b) i 0
masked b i k = masked_bit (b % 2) i (omega arith) k ∙ ap (λ (z : List ℕ). get_or z i 0) (block_low b)

-- a block that is written octet by octet
pub block_written : (b : ℕ) (out : List ℕ) → length out ≡ 512 → ((k : ℕ) → k < 512 → get_or out k 0 ≡ get_or (block b) k 0) → out ≡ block b
block_written b out l h = ext_get_or 0 out (block b) (l ∙ sym (block_is b).long) (λ k lt. h k (omega arith))
