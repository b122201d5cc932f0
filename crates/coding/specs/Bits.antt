-- Words of bits. A bit is the number 0 or 1, a word of bits a list of them, the first bit first.
use Rattle.std.specs.Prelude.{ℕ, zero, suc, ◌+◌, ◌*◌, ◌/◌, ◌%◌, ◌^◌, Bool, true, ◌&&◌, List, [], ◌∷◌, ◌++◌, take, drop, nat_lt}

-- whether each number of a list is a bit
abbrev pub are_bits : List ℕ → Bool
are_bits [] = true
are_bits (b ∷ bs) = nat_lt b 2 && are_bits bs

-- the sum of two bits, modulo 2
abbrev pub plus : ℕ → ℕ → ℕ
plus a b = (a + b) % 2

-- the n low bits of a number, the highest first
unfoldable pub bits : ℕ → ℕ → List ℕ
bits zero x = []
bits (suc n) x = x / 2 ^ n % 2 ∷ bits n x

-- the number that bits write after the number x
unfoldable pub number_after : ℕ → List ℕ → ℕ
number_after x [] = x
number_after x (b ∷ bs) = number_after (x * 2 + b) bs

-- the number whose bits these are, the first the highest
abbrev pub number : List ℕ → ℕ
number w = number_after 0 w

-- the bits of octets one after the other
unfoldable pub octet_bits : List ℕ → List ℕ
octet_bits [] = []
octet_bits (o ∷ os) = bits 8 o ++ octet_bits os

-- the w low bits of each number, one group after the other
unfoldable pub group_bits : ℕ → List ℕ → List ℕ
group_bits w [] = []
group_bits w (x ∷ xs) = bits w x ++ group_bits w xs

-- the numbers of the first n groups of w bits
unfoldable pub groups : ℕ → ℕ → List ℕ → List ℕ
groups w zero bs = []
groups w (suc n) bs = number (take w bs) ∷ groups w n (drop w bs)
