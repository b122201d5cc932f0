-- The search for the errors: the words of the inner contracts. The remainder of a received word stands for it: at the roots
-- of the generator both have the same value.
use Rattle.std.specs.Prelude.{◌≡◌, ℕ, suc, ◌+◌, ◌-◌, ◌<◌, List, take, drop, ◌≢◌, bit_xor, slice_index, slice_index_or}
use Rattle.coding.specs.Bits.{bits, number}
use Rattle.coding.specs.Distance.{distance}
use Rattle.field.specs.Field.{exp, value}
use Rattle.field.specs.Code.{parity}
use Rattle.bch.specs.declared.word.Corrected.{Corrected}
use Rattle.bch.specs.Nearest.{Near}

-- the remainder of a received word by the generator: the parity that its data ask for and the parity that came, added
abbrev pub leftover : List ℕ → ℕ
leftover w = bit_xor (parity (take 69 w)) (number (drop 69 w))

-- s holds the values of the remainder at c to c^12
abbrev pub Syndromes : ℕ → List ℕ → Type 0
Syndromes r s = (k : ℕ) → k < 12 → slice_index s k ≡ value (exp (suc k)) (bits 42 r)

-- the row of the key equation of the syndromes at the places n to n + v: its coefficients are those at n + v - 1 down to n,
-- and that at n + v is the constant
pub record Equation (s : List ℕ) (n v : ℕ) (row : List ℕ) : Type 0 where
  pub coefficient : (j : ℕ) → j < v → slice_index row j ≡ slice_index s (n + (v - suc j))
  pub constant : slice_index_or row v 0 ≡ slice_index s (n + v)

-- a is a codeword within six places of w, with its distance
abbrev pub Corrects : List ℕ → Corrected → Type 0
Corrects w a = Near w a.codeword × (a.places ≡ distance w a.codeword)

-- no codeword within six places of w is at the distance v
abbrev pub NoneAt : List ℕ → ℕ → Type 0
NoneAt w v = (c : List ℕ) → Near w c → v ≢ distance w c
