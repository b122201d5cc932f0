-- The (111, 69) code: a BCH code of length 127 that corrects six errors, shortened by sixteen data bits. A codeword is 69
-- data bits and then 42 parity bits, each first bit the highest power.
use Rattle.std.specs.Prelude.{◌≡◌, ℕ, suc, ◌<◌, ◌≤◌, true, List, ◌++◌, length}
use Rattle.coding.specs.Bits.{are_bits, bits}
use Rattle.coding.specs.Distance.{distance}
use Rattle.coding.specs.Polynomial.{times, remainder, OnlyRemainder}
use Rattle.field.specs.Field.{exp, value}

-- the minimal polynomials of c^11, c^9, c^7, c, c^3 and c^5
abbrev pub g1 : ℕ
g1 = 0b1001_0001  -- 1 + x^4 + x^7

abbrev pub g2 : ℕ
g2 = 0b1001_1101  -- 1 + x^2 + x^3 + x^4 + x^7

abbrev pub g3 : ℕ
g3 = 0b1011_1111  -- 1 + x + x^2 + x^3 + x^4 + x^5 + x^7

abbrev pub g4 : ℕ
g4 = 0b1100_0001  -- 1 + x^6 + x^7

abbrev pub g5 : ℕ
g5 = 0b1101_0101  -- 1 + x^2 + x^4 + x^6 + x^7

abbrev pub g6 : ℕ
g6 = 0b1111_0001  -- 1 + x^4 + x^5 + x^6 + x^7

-- the generator, their product, of degree 42
unfoldable pub generator : ℕ
unfolding times
generator = times 8 (times 8 (times 8 (times 8 (times 8 g1 g2) g3) g4) g5) g6

-- the parity of data bits: the remainder of D(x)·x^42 by the generator
unfoldable pub parity : List ℕ → ℕ
parity d = remainder 42 generator 0 d

-- the codeword of data bits
unfoldable pub encode : List ℕ → List ℕ
encode d = d ++ bits 42 (parity d)

-- w is a codeword: that of 69 data bits
pub record Codeword (w : List ℕ) : Type 0 where
  pub message : List ℕ
  pub sixty_nine : length message ≡ 69
  pub bit : are_bits message ≡ true
  pub is : w ≡ encode message

-- c is a root of g4, and c to c^12 are roots of each codeword
abbrev pub IsRootOfG4 : Type 0
IsRootOfG4 = value (exp 1) (bits 8 g4) ≡ 0

abbrev pub Roots : Type 0
Roots = (w : List ℕ) → Codeword w → (i : ℕ) → i < 12 → value (exp (suc i)) w ≡ 0

-- the minimum distance is at least 13
abbrev pub MinimumDistance : Type 0
MinimumDistance = (u v : List ℕ) → Codeword u → Codeword v → distance u v ≤ 12 → u ≡ v

pub record CodeLaws : Type 0 where
  -- the parity is the one remainder by the generator
  pub remains : (d : List ℕ) → are_bits d ≡ true → OnlyRemainder 42 generator 0 d (parity d)
  pub root : IsRootOfG4
  pub roots : Roots
  pub far : MinimumDistance
