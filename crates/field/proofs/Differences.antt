-- The places at which two words differ, and the minimum distance of the code.
use Rattle.std.proofs.Common.{◌≡◌, ℕ, zero, suc, ◌+◌, ◌<◌, Bool, true, false, cond, eqb, List, [], ◌∷◌, map, length, get_or, sym, refl, ap, ◌∙◌, ap₂, arith, lit<, length-append}
use lib.ListN.{length-map}
use lib.Bits.{bit_xor, xor_self, xor_zero_r}
use Rattle.std.proofs.lemmas.Bool.{eqb-true}
use Rattle.coding.specs.Bits.{are_bits, bits}
use Rattle.coding.specs.Distance.{distance}
use Rattle.coding.proofs.Words.{bits_parts, bits_append, bits_bits, length_bits}
use Rattle.coding.proofs.Sums.{xor_swap}
use Rattle.coding.proofs.Distances.{distance_zero}
use Rattle.field.specs.Field.{by_c, by_power, mul, exp, power, value}
use Rattle.field.specs.Code.{parity, encode, Codeword, MinimumDistance, CodeLaws}
use Rattle.field.proofs.Tables.{every_below, at_each}
use Rattle.field.proofs.Elements.{logarithms, exp_small, exp_pos, one_mul, zero_l, power_small, power_swap}
use Rattle.field.proofs.PowerSums.{Each, Distinct, Nonzero, each_map, each_with, power_sum, vandermonde}
use Rattle.field.proofs.Roots.{roots, root_of_g4, parity_remains}

-- the places at which two words differ, each the number of bits after it
unfoldable pub differences : List ℕ → List ℕ → List ℕ
differences [] ys = []
differences (x ∷ xs) [] = []
differences (x ∷ xs) (y ∷ ys) = cond (eqb x y) (differences xs ys) (length xs ∷ differences xs ys)

pub distance_differences : (xs ys : List ℕ) → length xs ≡ length ys → distance xs ys ≡ length (differences xs ys)
unfolding distance differences
distance_differences [] [] e = refl
distance_differences [] (y ∷ ys) e = absurd (omega arith)
distance_differences (x ∷ xs) [] e = absurd (omega arith)
distance_differences (x ∷ xs) (y ∷ ys) e = by (eqb x y) (distance_differences xs ys (omega arith))
  where
    by : (t : Bool) → distance xs ys ≡ length (differences xs ys)
        → cond t 0 1 + distance xs ys ≡ length (cond t (differences xs ys) (length xs ∷ differences xs ys))
    by true h = omega arith
    by false h = omega arith

-- ---- the values of two words differ by the powers of their differences
-- the sum of the a^p over the places of a list
pub place_sum : ℕ → List ℕ → ℕ
place_sum a [] = 0
place_sum a (p ∷ ps) = bit_xor (power a p) (place_sum a ps)

bit_sum : (u v x : ℕ) → u < 2 → v < 2 → x < 128 → bit_xor (mul u x) (mul v x) ≡ cond (eqb u v) 0 x
bit_sum zero zero x hu hv h = ap₂ bit_xor (zero_l x) (zero_l x)
bit_sum zero (suc zero) x hu hv h = ap₂ bit_xor (zero_l x) (one_mul x h)
bit_sum (suc zero) zero x hu hv h = ap₂ bit_xor (one_mul x h) (zero_l x) ∙ xor_zero_r x
bit_sum (suc zero) (suc zero) x hu hv h = xor_self (mul 1 x)
bit_sum (suc (suc u)) v x hu hv h = absurd (omega arith)
bit_sum (suc zero) (suc (suc v)) x hu hv h = absurd (omega arith)
bit_sum zero (suc (suc v)) x hu hv h = absurd (omega arith)

pub value_differences : (a : ℕ) (us vs : List ℕ) → are_bits us ≡ true → are_bits vs ≡ true → length us ≡ length vs
    → bit_xor (value a us) (value a vs) ≡ place_sum a (differences us vs)
unfolding value differences place_sum
value_differences a [] [] hu hv e = refl
value_differences a [] (v ∷ vs) hu hv e = absurd (omega arith)
value_differences a (u ∷ us) [] hu hv e = absurd (omega arith)
value_differences a (u ∷ us) (v ∷ vs) hu hv e =
    let pu = bits_parts u us hu in
    let pv = bits_parts v vs hv in
    let l : length us ≡ length vs = omega arith in
    ap (λ (n : ℕ). bit_xor (bit_xor (mul u (power a (length us))) (value a us)) (bit_xor (mul v (power a n)) (value a vs))) (sym l)
    ∙ xor_swap (mul u (power a (length us))) (value a us) (mul v (power a (length us))) (value a vs)
    ∙ ap₂ bit_xor (bit_sum u v (power a (length us)) pu.0 pv.0 (power_small a (length us)))
    (value_differences a us vs pu.1 pv.1 l)
    ∙ by (eqb u v) (length us) (differences us vs)
  where
    by : (t : Bool) (n : ℕ) (ps : List ℕ) → bit_xor (cond t 0 (power a n)) (place_sum a ps) ≡ place_sum a (cond t ps (n ∷ ps))
    by true n ps = refl
    by false n ps = refl

-- at c^i it is a power sum of the locators c^p
pub place_sum_power_sum : (i : ℕ) (ps : List ℕ) → place_sum (exp i) ps ≡ power_sum (λ x. 1) (map exp ps) i
unfolding place_sum power_sum
place_sum_power_sum i [] = refl
place_sum_power_sum i (p ∷ ps) =
    ap₂ bit_xor (power_swap i p ∙ sym (one_mul (power (exp p) i) (power_small (exp p) i))) (place_sum_power_sum i ps)

-- ---- the locators are distinct
each_cond : (P : ℕ → Type 0) (b : Bool) (n : ℕ) (ns : List ℕ) → P n → Each P ns → Each P (cond b ns (n ∷ ns))
each_cond P true n ns h hs = hs
each_cond P false n ns h hs = (h, hs)

distinct_cond : (b : Bool) (n : ℕ) (ns : List ℕ) → Each (λ y. n ≡ y → ⊥) ns → Distinct ns → Distinct (cond b ns (n ∷ ns))
distinct_cond true n ns h hs = hs
distinct_cond false n ns h hs = (h, hs)

pub differences_below : (us vs : List ℕ) → Each (λ p. p < length us) (differences us vs)
unfolding differences
differences_below [] vs = tt
differences_below (u ∷ us) [] = tt
differences_below (u ∷ us) (v ∷ vs) =
    each_cond (λ p. p < suc (length us)) (eqb u v) (length us) (differences us vs) (omega arith)
    (each_map (λ p. p < length us) (λ p. p < suc (length us)) (differences us vs) (λ p h. omega arith) (differences_below us vs))

pub differences_distinct : (us vs : List ℕ) → Distinct (differences us vs)
unfolding differences
differences_distinct [] vs = tt
differences_distinct (u ∷ us) [] = tt
differences_distinct (u ∷ us) (v ∷ vs) =
    distinct_cond (eqb u v) (length us) (differences us vs)
    (each_map (λ p. p < length us) (λ p. length us ≡ p → ⊥) (differences us vs) (λ p h e. omega arith) (differences_below us vs))
    (differences_distinct us vs)

-- computed: the powers of c below 127 have their exponents as logarithms
exponent_test : ℕ → Bool
exponent_test i = eqb (get_or logarithms (exp i) 0) i

exponent_all : every_below exponent_test 127 ≡ true
unfolding every_below exponent_test exp by_power by_c logarithms
exponent_all = refl

pub exponent : (i : ℕ) → i < 127 → get_or logarithms (exp i) 0 ≡ i
unfolding exponent_test
exponent i h = eqb-true (get_or logarithms (exp i) 0) i (at_each exponent_test 127 exponent_all i h)

exp_injective : (i j : ℕ) → i < 127 → j < 127 → exp i ≡ exp j → i ≡ j
exp_injective i j hi hj e = sym (exponent i hi) ∙ ap (λ (x : ℕ). get_or logarithms x 0) e ∙ exponent j hj

each_exp : (P : ℕ → Type 0) (ps : List ℕ) → Each (λ p. P (exp p)) ps → Each P (map exp ps)
each_exp P [] h = tt
each_exp P (p ∷ ps) h = (h.0, each_exp P ps h.1)

pub distinct_exp : (ps : List ℕ) → Each (λ p. p < 127) ps → Distinct ps → Distinct (map exp ps)
distinct_exp [] hs h = tt
distinct_exp (p ∷ ps) hs h = (
  each_exp (λ y. exp p ≡ y → ⊥) ps
      (each_with (λ q. q < 127) (λ q. p ≡ q → ⊥) (λ q. exp p ≡ exp q → ⊥) ps (λ q l n e. n (exp_injective p q hs.0 l e)) hs.1 h.0),
  distinct_exp ps hs.1 h.1,
)

pub nonzero_exp : (ps : List ℕ) → Each Nonzero (map exp ps)
nonzero_exp [] = tt
nonzero_exp (p ∷ ps) = (record { small = exp_small p; pos = exp_pos p }, nonzero_exp ps)

-- ---- codewords
pub word_length : (w : List ℕ) → Codeword w → length w ≡ 111
unfolding encode
word_length w c =
    ap length c.is ∙ length-append c.message (bits 42 (parity c.message))
    ∙ ap₂ ◌+◌ c.sixty_nine (length_bits 42 (parity c.message))

pub word_bits : (w : List ℕ) → Codeword w → are_bits w ≡ true
unfolding encode
word_bits w c =
    ap are_bits c.is ∙ bits_append c.message (bits 42 (parity c.message)) c.bit (bits_bits 42 (parity c.message))

-- with all coefficients 1 the sums vanish only over nothing
none_left : (ps : List ℕ) → Each (λ x. ◌≡◌ {A = ℕ} 1 0) (map exp ps) → length ps ≡ 0
none_left [] h = refl
none_left (p ∷ ps) h = let e : ◌≡◌ {A = ℕ} 1 0 = h.0 in absurd (omega arith)

pub far : MinimumDistance
far u v cu cv near =
    let l : length u ≡ length v = word_length u cu ∙ sym (word_length v cv) in
    let n : distance u v ≡ length (differences u v) = distance_differences u v l in
    let below : Each (λ p. p < 127) (differences u v) =
    each_map (λ p. p < length u) (λ p. p < 127) (differences u v) (λ p h. omega (arith, word_length u cu)) (differences_below u v)
    in
    let sums : (i : ℕ) → i < length (map exp (differences u v)) → power_sum (λ x. 1) (map exp (differences u v)) (suc i) ≡ 0 =
    λ i h.
    let k : i < 12 = omega (arith, length-map (differences u v) exp) in
    sym (place_sum_power_sum (suc i) (differences u v))
    ∙ sym (value_differences (exp (suc i)) u v (word_bits u cu) (word_bits v cv) l)
    ∙ ap₂ bit_xor (roots u cu i k) (roots v cv i k)
    in
    distance_zero u v
    (n ∙ none_left (differences u v)
    (vandermonde (map exp (differences u v)) (distinct_exp (differences u v) below (differences_distinct u v))
    (nonzero_exp (differences u v))
    (λ x. 1) (λ x. lit< tt) sums))

pub code_laws : CodeLaws
code_laws = record { remains = parity_remains; root = root_of_g4; roots = roots; far = far }
