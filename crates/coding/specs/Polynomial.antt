-- Polynomials over the field of two elements. A number stands for the polynomial in which x^i has the number's bit i as
-- its coefficient, so that adding is `bit_xor` and multiplying by x is doubling.
use Rattle.std.specs.Prelude.{◌≡◌, ℕ, zero, suc, ◌*◌, ◌/◌, ◌%◌, ◌^◌, ◌<◌, ◌≤◌, true, cond, List, [], ◌∷◌, length, bit_xor, nat_lt}
use Rattle.coding.specs.Bits.{are_bits, number}

-- the product of p and q, where q has a degree below n
unfoldable pub times : ℕ → ℕ → ℕ → ℕ
times zero p q = 0
times (suc n) p q = bit_xor (q % 2 * p) (times n (p * 2) (q / 2))

-- p less g, which has the degree n, where x^n is in p
unfoldable pub reduced : ℕ → ℕ → ℕ → ℕ
reduced n g p = cond (nat_lt p (2 ^ n)) p (bit_xor p g)

-- Long division by g, of degree n, from the remainder r on: each further coefficient b, the highest first, makes of the
-- remainder r the remainder of r·x + b·x^n. What is left after k of them is the remainder of r·x^k + D(x)·x^n by g, where
-- D(x) has the k coefficients.
unfoldable pub remainder : ℕ → ℕ → ℕ → List ℕ → ℕ
remainder n g r [] = r
remainder n g r (b ∷ bs) = remainder n g (reduced n g (bit_xor (r * 2) (b * 2 ^ n))) bs

-- What a remainder is, with no word of how it is found. D(x) has the k coefficients d, the first the highest; p is a
-- remainder of r·x^k + D(x)·x^n by g when its degree is below n, the degree of g, and r·x^k + D(x)·x^n + p is a multiple
-- of g, the quotient being of a degree below k.
pub record Remainder (n g r : ℕ) (d : List ℕ) (p : ℕ) : Type 0 where
  pub small : p < 2 ^ n
  pub quotient : ℕ
  pub degree : quotient < 2 ^ length d
  pub multiple : bit_xor (bit_xor (r * 2 ^ length d) (number d * 2 ^ n)) p ≡ times (length d) g quotient

-- p is a remainder, and there is no other
pub record OnlyRemainder (n g r : ℕ) (d : List ℕ) (p : ℕ) : Type 0 where
  pub remains : Remainder n g r d p
  pub only : (q : ℕ) → Remainder n g r d q → q ≡ p

-- the law of division: long division by any polynomial of any degree leaves the one remainder
abbrev pub Division : Type 0
Division =
    (n g r : ℕ) (d : List ℕ) → 2 ^ n ≤ g → g < 2 ^ suc n → r < 2 ^ n → are_bits d ≡ true
    → OnlyRemainder n g r d (remainder n g r d)
