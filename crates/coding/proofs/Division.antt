-- Long division by a polynomial g of degree n.
use Rattle.std.proofs.Common.{◌≡◌, ℕ, suc, ◌+◌, ◌*◌, ◌/◌, ◌^◌, ◌<◌, ◌≤◌, List, [], ◌∷◌, ◌++◌, length, get_or, drop, sym, refl, ap, ◌∙◌, ap₂, div-lt_iff_lt-mul, pow-suc, arith, pow_pos}
use native.Mathlib.Nat.{div-eq_of_lt-le}
use lib.Bits.{bit_xor, xor_shr}
use Rattle.std.proofs.lemmas.List.{drop_more, drop_all}
use Rattle.std.proofs.lemmas.Bool.{cond_below, cond_above}
use Rattle.coding.specs.Polynomial.{reduced, remainder}

-- a polynomial of degree n has the quotient 1 by x^n
pub top_bit : (n p : ℕ) → 2 ^ n ≤ p → p < 2 ^ suc n → p / 2 ^ n ≡ 1
top_bit n p low high = div-eq_of_lt-le (2 ^ n) (omega (arith, pow-suc 2 n)) (omega (arith, pow-suc 2 n))

-- two polynomials of degree n add to one of a lower degree
pub tops_cancel : (n p q : ℕ) → 2 ^ n ≤ p → p < 2 ^ suc n → 2 ^ n ≤ q → q < 2 ^ suc n → bit_xor p q < 2 ^ n
tops_cancel n p q lp hp lq hq =
    let e : bit_xor p q / 2 ^ n ≡ 0 = xor_shr p q n ∙ ap₂ bit_xor (top_bit n p lp hp) (top_bit n q lq hq) in
    let k : bit_xor p q / 2 ^ n < 1 = omega arith in
    let h : bit_xor p q < 1 * 2 ^ n = (div-lt_iff_lt-mul (pow_pos n)).0 k in
    omega arith

-- a polynomial of a lower degree stays, and from one of degree n the divisor is taken off
pub reduced_low : (n g p : ℕ) → p < 2 ^ n → p ≡ reduced n g p
unfolding reduced
reduced_low n g p h = cond_below p (2 ^ n) p (bit_xor p g) h

pub reduced_high : (n g p : ℕ) → 2 ^ n ≤ p → bit_xor p g ≡ reduced n g p
unfolding reduced
reduced_high n g p h = cond_above p (2 ^ n) p (bit_xor p g) (bit_xor p g) h refl

-- no coefficient is left, and one more comes
pub remainder_none : (n g r : ℕ) → remainder n g r [] ≡ r
unfolding remainder
remainder_none n g r = refl

pub remainder_more : (n g r b : ℕ) (bs : List ℕ) → remainder n g r (b ∷ bs) ≡ remainder n g (reduced n g (bit_xor (r * 2) (b * 2 ^ n))) bs
unfolding remainder
remainder_more n g r b bs = refl

-- the coefficients of two parts one after the other
pub remainder_append : (n g r : ℕ) (xs ys : List ℕ) → remainder n g r (xs ++ ys) ≡ remainder n g (remainder n g r xs) ys
unfolding remainder
remainder_append n g r [] ys = refl
remainder_append n g r (x ∷ xs) ys = remainder_append n g (reduced n g (bit_xor (r * 2) (x * 2 ^ n))) xs ys

-- a loop over a word: the coefficient at i is brought down
pub remainder_at : (n g r : ℕ) (w : List ℕ) (i y : ℕ) → i < length w → y ≡ reduced n g (bit_xor (r * 2) (get_or w i 0 * 2 ^ n))
    → remainder n g y (drop (i + 1) w) ≡ remainder n g r (drop i w)
remainder_at n g r w i y h e =
    ap (λ (z : ℕ). remainder n g z (drop (i + 1) w)) e ∙ sym (remainder_more n g r (get_or w i 0) (drop (i + 1) w))
    ∙ ap (remainder n g r) (sym (drop_more w i 0 h))

pub remainder_all : (n g r : ℕ) (w : List ℕ) (i : ℕ) → length w ≤ i → remainder n g r (drop i w) ≡ r
remainder_all n g r w i h = ap (remainder n g r) (drop_all i w h) ∙ remainder_none n g r
