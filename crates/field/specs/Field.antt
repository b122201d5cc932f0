-- GF(128): the polynomials in c of a degree below 7 over the field of two elements, where c^7 = c^6 + 1, so that c is a
-- root of 1 + x^6 + x^7. An element is a number below 128, whose bit i is the coefficient of c^i; adding is `bit_xor`. A
-- number from 128 on stands for its remainder by 128, so that products are of any two numbers.
use Rattle.std.specs.Prelude.{◌≡◌, ℕ, zero, suc, ◌*◌, ◌/◌, ◌%◌, ◌<◌, ◌⊎◌, List, [], ◌∷◌, length, bit_xor}

-- the product by c: c^7 becomes c^6 + 1
unfoldable pub by_c : ℕ → ℕ
by_c x = bit_xor (x * 2 % 128) (x / 64 % 2 * 0b100_0001)

-- the product by c^k
unfoldable pub by_power : ℕ → ℕ → ℕ
by_power zero x = x
by_power (suc k) x = by_c (by_power k x)

-- the sum of the x·c^i over the n low coefficients of y that are 1
unfoldable pub shift_add : ℕ → ℕ → ℕ → ℕ
shift_add zero x y = 0
shift_add (suc n) x y = bit_xor (y % 2 * x) (shift_add n (by_c x) (y / 2))

-- the product
unfoldable pub mul : ℕ → ℕ → ℕ
unfolding shift_add
mul x y = shift_add 7 (x % 128) (y % 128)

-- c^k
unfoldable pub exp : ℕ → ℕ
exp k = by_power k 1

-- x^k
unfoldable pub power : ℕ → ℕ → ℕ
power x zero = 1
power x (suc k) = mul x (power x k)

-- 1/x, as x^126, since x^127 = 1 for each x but 0; of 0 it is 0
unfoldable pub inverse : ℕ → ℕ
inverse x = power x 126

-- the value at x of the polynomial with these coefficients, the highest power first; a word of bits is one too
unfoldable pub value : ℕ → List ℕ → ℕ
value x [] = 0
value x (a ∷ rest) = bit_xor (mul a (power x (length rest))) (value x rest)

-- it is a field, its addition being that of bits
pub record FieldLaws : Type 0 where
  pub commutes : (x y : ℕ) → mul x y ≡ mul y x
  pub associates : (x y z : ℕ) → mul (mul x y) z ≡ mul x (mul y z)
  pub distributes : (x y z : ℕ) → mul x (bit_xor y z) ≡ bit_xor (mul x y) (mul x z)
  pub one : (x : ℕ) → mul 1 x ≡ x % 128
  pub closed : (x y : ℕ) → mul x y < 128
  pub inverts : (x : ℕ) → 0 < x % 128 → mul x (inverse x) ≡ 1
  -- c generates it: each element but 0 is a power of c
  pub primitive : (x : ℕ) → x < 128 → (x ≡ 0) ⊎ ((k : ℕ) × (k < 127) × (x ≡ exp k))
