-- How errors are located. The place of a word's bit is its power of x, so the last bit has the place 0. An error at the
-- place p has the locator c^p. The syndromes of a word are its values at c to c^12; those of a codeword vanish, so those of
-- a received word are the power sums of the locators of its errors.
use Rattle.std.specs.Prelude.{◌≡◌, ℕ, suc, ◌+◌, ◌-◌, ◌<◌, ◌≤◌, Bool, true, cond, List, [], ◌∷◌, length, ◌==◌, bit_xor}
use Rattle.coding.specs.Bits.{are_bits}
use Rattle.coding.specs.Distance.{distance}
use Rattle.field.specs.Field.{mul, exp, value}
use Rattle.field.specs.Code.{Codeword}

-- the syndrome n
unfoldable pub syndrome : List ℕ → ℕ → ℕ
syndrome w n = value (exp n) w

-- the sum of the a_j·s(n + j), where a_j is the coefficient of x^j
unfoldable pub recurrence : (ℕ → ℕ) → ℕ → List ℕ → ℕ
recurrence s n [] = 0
recurrence s n (a ∷ rest) = bit_xor (mul a (s (n + length rest))) (recurrence s n rest)

-- The key equations: x^v + l_1·x^(v-1) + .. + l_v, whose coefficients after the first are ls, is an error locator for v
-- errors as far as v of the recurrences of the syndromes tell.
pub record KeyEquations (w : List ℕ) (v : ℕ) (ls : List ℕ) : Type 0 where
  pub degree : length ls ≡ v
  pub equations : (i : ℕ) → i < v → recurrence (syndrome w) (suc i) (1 ∷ ls) ≡ 0

-- whether the locator of the place p is a root of x^v + l_1·x^(v-1) + .. + l_v
unfoldable pub is_root : List ℕ → ℕ → Bool
is_root ls p = value (exp p) (1 ∷ ls) == 0

-- the word with the bits flipped whose places pass the test
unfoldable pub flipped : (ℕ → Bool) → List ℕ → List ℕ
flipped f [] = []
flipped f (b ∷ bs) = cond (f (length bs)) (1 - b) b ∷ flipped f bs

-- w is a codeword within six places of the received word r
pub record Received (r w : List ℕ) : Type 0 where
  pub long : length r ≡ 111
  pub bit : are_bits r ≡ true
  pub code : Codeword w
  pub near : distance r w ≤ 6

-- With as many errors as there are, the key equations can be solved, and by each solution the roots among the places are
-- the errors, all of them and no other.
pub record LocatorLaws : Type 0 where
  pub solvable : (r w : List ℕ) → Received r w → (ls : List ℕ) × KeyEquations r (distance r w) ls
  pub corrects : (r w : List ℕ) → Received r w → (ls : List ℕ) → KeyEquations r (distance r w) ls → flipped (is_root ls) r ≡ w
