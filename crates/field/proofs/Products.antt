-- Products by the tables.
use Rattle.std.proofs.Common.{◌≡◌, ℕ, ◌+◌, ◌-◌, ◌*◌, ◌/◌, ◌%◌, ◌<◌, Bool, true, eqb, List, [], ◌∷◌, get_or, sym, refl, ap, ◌∙◌, subst, mod-eq_of_lt, arith}
use lib.Bits.{bit_xor}
use Rattle.std.proofs.lemmas.Bool.{eqb-true}
use Rattle.field.specs.Field.{by_c, by_power, mul, exp, power, inverse}
use Rattle.field.proofs.Tables.{every_below, at_each}
use Rattle.field.proofs.Elements.{by_c_small, comm, assoc, mul_zero', mul_zero_r', mul_exps, exp_whole, exp_small, exp_pos, mul_one, one_mul}
use Rattle.field.proofs.Elements.{power_small, inverts}

-- the powers of c
unfoldable pub powers : List ℕ
powers =
    1 ∷ 2 ∷ 4 ∷ 8 ∷ 16 ∷ 32 ∷ 64 ∷ 65 ∷ 67 ∷ 71 ∷ 79 ∷ 95 ∷ 127 ∷ 63 ∷ 126 ∷ 61 ∷
    122 ∷ 53 ∷ 106 ∷ 21 ∷ 42 ∷ 84 ∷ 105 ∷ 19 ∷ 38 ∷ 76 ∷ 89 ∷ 115 ∷ 39 ∷ 78 ∷ 93 ∷ 123 ∷
    55 ∷ 110 ∷ 29 ∷ 58 ∷ 116 ∷ 41 ∷ 82 ∷ 101 ∷ 11 ∷ 22 ∷ 44 ∷ 88 ∷ 113 ∷ 35 ∷ 70 ∷ 77 ∷
    91 ∷ 119 ∷ 47 ∷ 94 ∷ 125 ∷ 59 ∷ 118 ∷ 45 ∷ 90 ∷ 117 ∷ 43 ∷ 86 ∷ 109 ∷ 27 ∷ 54 ∷ 108 ∷
    25 ∷ 50 ∷ 100 ∷ 9 ∷ 18 ∷ 36 ∷ 72 ∷ 81 ∷ 99 ∷ 7 ∷ 14 ∷ 28 ∷ 56 ∷ 112 ∷ 33 ∷ 66 ∷
    69 ∷ 75 ∷ 87 ∷ 111 ∷ 31 ∷ 62 ∷ 124 ∷ 57 ∷ 114 ∷ 37 ∷ 74 ∷ 85 ∷ 107 ∷ 23 ∷ 46 ∷ 92 ∷
    121 ∷ 51 ∷ 102 ∷ 13 ∷ 26 ∷ 52 ∷ 104 ∷ 17 ∷ 34 ∷ 68 ∷ 73 ∷ 83 ∷ 103 ∷ 15 ∷ 30 ∷ 60 ∷
    120 ∷ 49 ∷ 98 ∷ 5 ∷ 10 ∷ 20 ∷ 40 ∷ 80 ∷ 97 ∷ 3 ∷ 6 ∷ 12 ∷ 24 ∷ 48 ∷ 96 ∷ 1 ∷
    2 ∷ 4 ∷ 8 ∷ 16 ∷ 32 ∷ 64 ∷ 65 ∷ 67 ∷ 71 ∷ 79 ∷ 95 ∷ 127 ∷ 63 ∷ 126 ∷ 61 ∷ 122 ∷
    53 ∷ 106 ∷ 21 ∷ 42 ∷ 84 ∷ 105 ∷ 19 ∷ 38 ∷ 76 ∷ 89 ∷ 115 ∷ 39 ∷ 78 ∷ 93 ∷ 123 ∷ 55 ∷
    110 ∷ 29 ∷ 58 ∷ 116 ∷ 41 ∷ 82 ∷ 101 ∷ 11 ∷ 22 ∷ 44 ∷ 88 ∷ 113 ∷ 35 ∷ 70 ∷ 77 ∷ 91 ∷
    119 ∷ 47 ∷ 94 ∷ 125 ∷ 59 ∷ 118 ∷ 45 ∷ 90 ∷ 117 ∷ 43 ∷ 86 ∷ 109 ∷ 27 ∷ 54 ∷ 108 ∷ 25 ∷
    50 ∷ 100 ∷ 9 ∷ 18 ∷ 36 ∷ 72 ∷ 81 ∷ 99 ∷ 7 ∷ 14 ∷ 28 ∷ 56 ∷ 112 ∷ 33 ∷ 66 ∷ 69 ∷
    75 ∷ 87 ∷ 111 ∷ 31 ∷ 62 ∷ 124 ∷ 57 ∷ 114 ∷ 37 ∷ 74 ∷ 85 ∷ 107 ∷ 23 ∷ 46 ∷ 92 ∷ 121 ∷
    51 ∷ 102 ∷ 13 ∷ 26 ∷ 52 ∷ 104 ∷ 17 ∷ 34 ∷ 68 ∷ 73 ∷ 83 ∷ 103 ∷ 15 ∷ 30 ∷ 60 ∷ 120 ∷
    49 ∷ 98 ∷ 5 ∷ 10 ∷ 20 ∷ 40 ∷ 80 ∷ 97 ∷ 3 ∷ 6 ∷ 12 ∷ 24 ∷ 48 ∷ 96 ∷ []

power_test : ℕ → Bool
power_test k = eqb (get_or powers k 0) (exp k)

power_all : every_below power_test 254 ≡ true
unfolding every_below power_test exp by_power by_c powers
power_all = refl

pub power_at : (k : ℕ) → k < 254 → get_or powers k 0 ≡ exp k
unfolding power_test
power_at k h = eqb-true (get_or powers k 0) (exp k) (at_each power_test 254 power_all k h)

-- the product of two elements that are not 0
pub product_is : (a b i j r : ℕ) → a % 128 ≡ exp i → b % 128 ≡ exp j → r ≡ exp (i + j) → r ≡ mul a b
product_is a b i j r e f g = g ∙ sym (mul_exps a b i j e f)

pub product_zero_l : (a b : ℕ) → a % 128 ≡ 0 → 0 ≡ mul a b
product_zero_l a b e = sym (mul_zero' a b e)

pub product_zero_r : (a b : ℕ) → b % 128 ≡ 0 → 0 ≡ mul a b
product_zero_r a b e = sym (mul_zero_r' a b e)

pub exp_below : (r k : ℕ) → r ≡ exp k → r < 128
exp_below r k e = subst (λ (z : ℕ). z < 128) (sym e) (exp_small k)

-- there is one inverse
pub inverse_only : (x r : ℕ) → r < 128 → mul x r ≡ 1 → 0 < x % 128 → r ≡ inverse x
unfolding inverse
inverse_only x r h e p =
    sym (one_mul r h) ∙ ap (λ (z : ℕ). mul z r) (sym (inverts x p) ∙ comm x (inverse x)) ∙ assoc (inverse x) x r
    ∙ ap (mul (inverse x)) e ∙ mul_one (inverse x) (power_small x 126)

pub inverse_is : (a k r : ℕ) → a % 128 ≡ exp k → k < 127 → r ≡ exp (127 - k) → r ≡ inverse a
inverse_is a k r e h f =
    let s : k + (127 - k) ≡ 127 = omega arith in
    let small : r < 128 = exp_below r (127 - k) f in
    inverse_only a r small
    (mul_exps a r k (127 - k) e (mod-eq_of_lt small ∙ f) ∙ ap exp s ∙ exp_whole) (omega (arith, e, exp_pos k))

pub inverse_zero : (a : ℕ) → a % 128 ≡ 0 → 0 ≡ inverse a
unfolding inverse power
inverse_zero a e = sym (mul_zero' a (power a 125) e)

pub times_c : (a : ℕ) → bit_xor (a % 64 * 2) (a / 64 % 2 * 65) ≡ by_c a
unfolding by_c
times_c a = let e : a % 64 * 2 ≡ a * 2 % 128 = omega arith in ap (λ (z : ℕ). bit_xor z (a / 64 % 2 * 65)) e

pub times_c_small : (a r : ℕ) → r ≡ by_c a → r < 128
times_c_small a r e = subst (λ (z : ℕ). z < 128) (sym e) (by_c_small a)
