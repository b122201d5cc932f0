-- The chip pattern, the block of a spread bit, and what is heard of it.
use Rattle.std.specs.Prelude.{ℕ, zero, suc, ◌+◌, cond, List, [], ◌∷◌, ◌++◌, map, drop, nat_lt, slice_index}
use Rattle.coding.specs.Bits.{plus, groups, group_bits}
use Rattle.coding.specs.Distance.{distance}

-- the first fifteen chips
unfoldable pub start : List ℕ
start = 0 ∷ 1 ∷ 0 ∷ 1 ∷ 0 ∷ 0 ∷ 0 ∷ 0 ∷ 1 ∷ 0 ∷ 0 ∷ 1 ∷ 0 ∷ 0 ∷ 0 ∷ []

-- fifteen chips, one place on: the new one is the sum of the chips fifteen and fourteen places before it
unfoldable pub shift : List ℕ → List ℕ
shift w = drop 1 w ++ (plus (slice_index w 0) (slice_index w 1) ∷ [])

-- n chips, of which w are the first fifteen
unfoldable pub run : ℕ → List ℕ → List ℕ
run zero w = []
run (suc n) w = slice_index w 0 ∷ run n (shift w)

-- the 4,096 chips with which every bit is spread
unfoldable pub pattern : List ℕ
pattern = run 4096 start

-- the chips of a spread bit: the bit added to every chip of the pattern
unfoldable pub chips : ℕ → List ℕ
chips b = map (plus b) pattern

-- the block of a spread bit: its chips in 512 octets, high bit first
unfoldable pub block : ℕ → List ℕ
block b = groups 8 512 (chips b)

-- how many chips of a block are unlike the pattern
unfoldable pub unlike : List ℕ → ℕ
unlike heard = distance (group_bits 8 heard) pattern

-- the bit that a block is heard as: 1 where more than half of its chips are unlike the pattern
unfoldable pub despread : List ℕ → ℕ
despread heard = cond (nat_lt 2048 (unlike heard)) 1 0

-- how many chips are heard other than written
unfoldable pub flipped : List ℕ → List ℕ → ℕ
flipped written heard = distance (group_bits 8 heard) (group_bits 8 written)

-- how many spread bits are lost on the way: at least 2,048 of their 4,096 chips are flipped
unfoldable pub lost : List (List ℕ) → List (List ℕ) → ℕ
lost [] heard = 0
lost (w ∷ written) [] = 0
lost (w ∷ written) (h ∷ heard) = cond (nat_lt (flipped w h) 2048) 0 1 + lost written heard
