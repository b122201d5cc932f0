-- The roots of the code: a root of the generator is a root of each codeword.
use Rattle.std.proofs.Common.{◌≡◌, ℕ, zero, suc, ◌*◌, ◌/◌, ◌%◌, ◌^◌, ◌<◌, ◌≤◌, Bool, true, eqb, List, [], ◌∷◌, ◌++◌, length, sym, refl, ap, ◌∙◌, ap₂, pow-suc, add-one, arith, lit<, lit≤, length-append, pow_pos}
use lib.Bits.{bit_xor, xor_comm, xor_self, xor_lt, xor_zero_r, xor_shr, xor_mod}
use Rattle.std.proofs.lemmas.Nat.{shr-shr}
use Rattle.std.proofs.lemmas.Bool.{eqb-true}
use Rattle.coding.specs.Bits.{are_bits, bits, number}
use Rattle.coding.specs.Polynomial.{times, reduced, remainder, OnlyRemainder}
use Rattle.coding.proofs.Words.{bits_parts, bits_none, bits_low, length_bits}
use Rattle.coding.proofs.Numbers.{bits_number}
use Rattle.coding.proofs.Sums.{xor_swap}
use Rattle.coding.proofs.Quotient.{division, reduced_is, reduced_small, brought, top_below}
use Rattle.field.specs.Field.{by_c, by_power, shift_add, mul, exp, power, value}
use Rattle.field.specs.Code.{g4, generator, parity, encode, IsRootOfG4, Roots}
use Rattle.field.proofs.Tables.{every_below, at_each}
use Rattle.field.proofs.Elements.{bit_cases, dist, mul_small, mul_one, one_mul, zero_r, zero_l, power_add, exp_small, ring}

-- ---- the value at a of the polynomial whose coefficients are the n low bits of a number
pub evaluate : ℕ → ℕ → ℕ → ℕ
evaluate zero a r = 0
evaluate (suc n) a r = bit_xor (r % 2) (mul a (evaluate n a (r / 2)))

pub evaluate_xor : (n a r s : ℕ) → evaluate n a (bit_xor r s) ≡ bit_xor (evaluate n a r) (evaluate n a s)
unfolding evaluate
evaluate_xor zero a r s = refl
evaluate_xor (suc n) a r s =
    ap₂ bit_xor (xor_mod r s 1)
    (ap (λ (z : ℕ). mul a (evaluate n a z)) (xor_shr r s 1) ∙ ap (mul a) (evaluate_xor n a (r / 2) (s / 2))
    ∙ dist a (evaluate n a (r / 2)) (evaluate n a (s / 2)))
    ∙ xor_swap (r % 2) (s % 2) (mul a (evaluate n a (r / 2))) (mul a (evaluate n a (s / 2)))

pub evaluate_double : (n a r : ℕ) → evaluate (suc n) a (r * 2) ≡ mul a (evaluate n a r)
unfolding evaluate
evaluate_double n a r =
    let e : r * 2 % 2 ≡ 0 = omega arith in
    let f : r * 2 / 2 ≡ r = omega arith in
    ap₂ (λ (x y : ℕ). bit_xor x (mul a (evaluate n a y))) e f

pub evaluate_zero : (n a : ℕ) → evaluate n a 0 ≡ 0
unfolding evaluate
evaluate_zero zero a = refl
evaluate_zero (suc n) a = ap (mul a) (evaluate_zero n a) ∙ zero_r a

-- a coefficient more than there are changes nothing
pub evaluate_fuel : (n a r : ℕ) → r < 2 ^ n → evaluate (suc n) a r ≡ evaluate n a r
unfolding evaluate
evaluate_fuel zero a r h = let e : r ≡ 0 = omega arith in ap (evaluate 1 a) e ∙ evaluate_zero 1 a
evaluate_fuel (suc n) a r h =
    let e : 2 ^ suc n ≡ 2 ^ n * 2 = pow-suc 2 n in
    ap (λ (z : ℕ). bit_xor (r % 2) (mul a z)) (evaluate_fuel n a (r / 2) (omega arith))

pub evaluate_small : (n a r : ℕ) → evaluate n a r < 128
unfolding evaluate
evaluate_small zero a r = lit< tt
evaluate_small (suc n) a r = xor_lt 7 (r % 2) (mul a (evaluate n a (r / 2))) (omega arith) (mul_small a (evaluate n a (r / 2)))

-- a bit times a polynomial
evaluate_bit : (n a b r : ℕ) → b < 2 → evaluate n a (b * r) ≡ mul b (evaluate n a r)
evaluate_bit n a b r h =
    let z : 0 * r ≡ 0 = omega arith in
    let o : 1 * r ≡ r = omega arith in
    bit_cases (λ b. evaluate n a (b * r) ≡ mul b (evaluate n a r))
    (ap (evaluate n a) z ∙ evaluate_zero n a ∙ sym (zero_l (evaluate n a r)))
    (ap (evaluate n a) o ∙ sym (one_mul (evaluate n a r) (evaluate_small n a r))) b h

evaluate_top : (n a : ℕ) → evaluate (suc n) a (2 ^ n) ≡ power a n
unfolding evaluate power
evaluate_top zero a = ap (bit_xor 1) (zero_r a)
evaluate_top (suc n) a = ap (evaluate (suc (suc n)) a) (pow-suc 2 n) ∙ evaluate_double (suc n) a (2 ^ n) ∙ ap (mul a) (evaluate_top n a)

-- Horner's rule, from the bit i + 1 down
pub evaluate_more : (n a r i : ℕ) → evaluate (suc n) a (r / 2 ^ i) ≡ bit_xor (mul a (evaluate n a (r / 2 ^ suc i))) (r / 2 ^ i % 2)
unfolding evaluate
evaluate_more n a r i =
    let e : r / 2 ^ i / 2 ≡ r / 2 ^ suc i = shr-shr r i 1 ∙ ap (λ (k : ℕ). r / 2 ^ k) (add-one i) in
    ap (λ (z : ℕ). bit_xor (r / 2 ^ i % 2) (mul a (evaluate n a z))) e ∙ xor_comm (r / 2 ^ i % 2) (mul a (evaluate n a (r / 2 ^ suc i)))

-- ---- the value at a of a word
append_sorted : (b p q v w : ℕ) → bit_xor (mul b (mul p q)) (bit_xor (mul q v) w) ≡ bit_xor (mul q (bit_xor (mul b p) v)) w
append_sorted b p q v w = simp ring

pub value_append : (a : ℕ) (xs ys : List ℕ) → value a (xs ++ ys) ≡ bit_xor (mul (power a (length ys)) (value a xs)) (value a ys)
unfolding value
value_append a [] ys = ap (λ (z : ℕ). bit_xor z (value a ys)) (sym (zero_r (power a (length ys))))
value_append a (x ∷ xs) ys =
    ap₂ bit_xor (ap (mul x) (ap (power a) (length-append xs ys) ∙ power_add a (length xs) (length ys))) (value_append a xs ys)
    ∙ append_sorted x (power a (length xs)) (power a (length ys)) (value a xs) (value a ys)

-- Horner's rule
pub value_push : (a : ℕ) (xs : List ℕ) (b : ℕ) → a < 128 → b < 128 → value a (xs ++ (b ∷ [])) ≡ bit_xor (mul a (value a xs)) b
unfolding value power
value_push a xs b ha hb =
    value_append a xs (b ∷ []) ∙ ap₂ bit_xor (ap (λ (z : ℕ). mul z (value a xs)) (mul_one a ha)) (xor_zero_r (mul b 1) ∙ mul_one b hb)

pub value_bits : (a n r : ℕ) → a < 128 → value a (bits n r) ≡ evaluate n a r
unfolding evaluate value
value_bits a zero r h = ap (value a) (bits_none r)
value_bits a (suc n) r h =
    ap (value a) (bits_low n r) ∙ value_push a (bits n (r / 2)) (r % 2) h (omega arith)
    ∙ ap (λ (z : ℕ). bit_xor (mul a z) (r % 2)) (value_bits a n (r / 2) h)
    ∙ xor_comm (mul a (evaluate n a (r / 2))) (r % 2)

-- ---- the remainder by g has the dividend's value at a root of g
module _ (n g a : ℕ) (lg : 2 ^ n ≤ g) (hg : g < 2 ^ suc n) (root : evaluate (suc n) a g ≡ 0) where
  evaluate_step : (r b : ℕ) → r < 2 ^ n → b < 2
      → evaluate n a (reduced n g (bit_xor (r * 2) (b * 2 ^ n))) ≡ bit_xor (mul a (evaluate n a r)) (mul b (power a n))
  evaluate_step r b h hb =
      let p : ℕ = bit_xor (r * 2) (b * 2 ^ n) in
      let hp : p < 2 ^ suc n = brought n r b h hb in
      let t : ℕ = p / 2 ^ n in
      sym (evaluate_fuel n a (reduced n g p) (reduced_small n g p lg hg hp))
      ∙ ap (evaluate (suc n) a) (reduced_is n g p hp)
      ∙ evaluate_xor (suc n) a p (t * g)
      ∙ ap (bit_xor (evaluate (suc n) a p)) (evaluate_bit (suc n) a t g (top_below n p hp) ∙ ap (mul t) root ∙ zero_r t)
      ∙ xor_zero_r (evaluate (suc n) a p)
      ∙ evaluate_xor (suc n) a (r * 2) (b * 2 ^ n)
      ∙ ap₂ bit_xor (evaluate_double n a r) (evaluate_bit (suc n) a b (2 ^ n) hb ∙ ap (mul b) (evaluate_top n a))

  step_sorted : (p v b q w : ℕ) → bit_xor (mul p (bit_xor (mul a v) (mul b q))) (mul q w) ≡ bit_xor (mul (mul a p) v)
      (mul q (bit_xor (mul b p) w))
  step_sorted p v b q w = simp ring

  pub evaluate_remainder : (r : ℕ) (d : List ℕ) → are_bits d ≡ true → r < 2 ^ n
      → evaluate n a (remainder n g r d) ≡ bit_xor (mul (power a (length d)) (evaluate n a r)) (mul (power a n) (value a d))
  unfolding remainder value power
  evaluate_remainder r [] hs h =
      sym (ap₂ bit_xor (one_mul (evaluate n a r) (evaluate_small n a r)) (zero_r (power a n)) ∙ xor_zero_r (evaluate n a r))
  evaluate_remainder r (b ∷ bs) hs h =
      let k = bits_parts b bs hs in
      let s : ℕ = reduced n g (bit_xor (r * 2) (b * 2 ^ n)) in
      evaluate_remainder s bs k.1 (reduced_small n g (bit_xor (r * 2) (b * 2 ^ n)) lg hg (brought n r b h k.0))
      ∙ ap (λ (z : ℕ). bit_xor (mul (power a (length bs)) z) (mul (power a n) (value a bs))) (evaluate_step r b h k.0)
      ∙ step_sorted (power a (length bs)) (evaluate n a r) b (power a n) (value a bs)

  -- so data and remainder together have the value zero there
  pub systematic_root : (d : List ℕ) → a < 128 → are_bits d ≡ true → value a (d ++ bits n (remainder n g 0 d)) ≡ 0
  systematic_root d ha hs =
      let p : ℕ = remainder n g 0 d in
      value_append a d (bits n p)
      ∙ ap₂ bit_xor (ap (λ (m : ℕ). mul (power a m) (value a d)) (length_bits n p))
      (value_bits a n p ha ∙ evaluate_remainder 0 d hs (pow_pos n)
      ∙ ap (λ (z : ℕ). bit_xor z (mul (power a n) (value a d)))
      (ap (mul (power a (length d))) (evaluate_zero n a) ∙ zero_r (power a (length d))))
      ∙ xor_self (mul (power a n) (value a d))

  -- a word of data and parity has the value of its remainder, which is the data's parity and the parity that came, added
  pub systematic_value : (d p : List ℕ) → a < 128 → are_bits d ≡ true → are_bits p ≡ true → length p ≡ n
      → value a (d ++ p) ≡ value a (bits n (bit_xor (remainder n g 0 d) (number p)))
  systematic_value d p ha hd hp l =
      let r : ℕ = remainder n g 0 d in
      let front : mul (power a n) (value a d) ≡ evaluate n a r =
      sym (evaluate_remainder 0 d hd (pow_pos n)
      ∙ ap (λ (z : ℕ). bit_xor z (mul (power a n) (value a d)))
      (ap (mul (power a (length d))) (evaluate_zero n a) ∙ zero_r (power a (length d))))
      in
      value_append a d p
      ∙ ap₂ bit_xor (ap (λ (m : ℕ). mul (power a m) (value a d)) l ∙ front)
      (ap (value a) (sym (bits_number p n l hp)) ∙ value_bits a n (number p) ha)
      ∙ sym (evaluate_xor n a r (number p)) ∙ sym (value_bits a n (bit_xor r (number p)) ha)

-- ---- the code
pub generator_degree : (2 ^ 42 ≤ generator) × (generator < 2 ^ 43)
unfolding generator times
generator_degree = (lit≤ tt, lit< tt)

-- computed: the generator vanishes at c to c^12
root_test : ℕ → Bool
root_test i = eqb (evaluate 43 (exp (suc i)) generator) 0

root_all : every_below root_test 12 ≡ true
unfolding every_below root_test evaluate exp by_power by_c mul shift_add generator times
root_all = refl

pub generator_root : (i : ℕ) → i < 12 → evaluate 43 (exp (suc i)) generator ≡ 0
unfolding root_test
generator_root i h = eqb-true (evaluate 43 (exp (suc i)) generator) 0 (at_each root_test 12 root_all i h)

pub root_of_g4 : IsRootOfG4
unfolding evaluate exp by_power by_c mul shift_add
root_of_g4 = value_bits (exp 1) 8 g4 (exp_small 1)

pub roots : Roots
unfolding encode parity
roots w c i h =
    ap (value (exp (suc i))) c.is
    ∙ systematic_root 42 generator (exp (suc i)) generator_degree.0 generator_degree.1 (generator_root i h) c.message
    (exp_small (suc i)) c.bit

pub parity_remains : (d : List ℕ) → are_bits d ≡ true → OnlyRemainder 42 generator 0 d (parity d)
unfolding parity
parity_remains d h = division 42 generator 0 d generator_degree.0 generator_degree.1 (lit< tt) h
