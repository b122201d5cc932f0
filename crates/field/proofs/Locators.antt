-- Error locators: polynomials in x over GF(128) whose roots are the locators of the errors.
use Rattle.std.proofs.Common.{◌≡◌, ℕ, suc, ◌+◌, ◌<◌, ◌≤◌, List, [], ◌∷◌, length, sym, refl, ap, ◌∙◌, ap₂, arith, lit<}
use lib.Bits.{bit_xor, xor_assoc, xor_self, xor_lt, xor_zero_r}
use Rattle.coding.proofs.Sums.{xor_swap, xor_same}
use Rattle.field.specs.Field.{mul, power, value}
use Rattle.field.specs.Locator.{recurrence}
use Rattle.field.proofs.Elements.{comm, assoc, dist, mul_small, one_mul, zero_r, zero_l, dist_l, power_small, power_add, cancel, ring}
use Rattle.field.proofs.Elements.{ring-zero}
use Rattle.field.proofs.PowerSums.{Each, Distinct, Nonzero, each_map, each_with, power_sum, power_sum_zero, vandermonde}

power_sum_nought : (xs : List ℕ) (n : ℕ) (k : ℕ → ℕ) → ((x : ℕ) → k x ≡ 0) → power_sum k xs n ≡ 0
unfolding power_sum
power_sum_nought [] n k h = refl
power_sum_nought (x ∷ xs) n k h = ap₂ bit_xor (ap (λ (z : ℕ). mul z (power x n)) (h x) ∙ zero_l (power x n)) (power_sum_nought xs n k h)

-- a sum of two coefficient functions
power_sum_plus : (k h : ℕ → ℕ) (xs : List ℕ) (n : ℕ) → power_sum (λ x. bit_xor (k x) (h x)) xs n ≡ bit_xor (power_sum k xs n) (power_sum h xs n)
unfolding power_sum
power_sum_plus k h [] n = refl
power_sum_plus k h (x ∷ xs) n =
    ap₂ bit_xor (dist_l (k x) (h x) (power x n)) (power_sum_plus k h xs n)
    ∙ xor_swap (mul (k x) (power x n)) (mul (h x) (power x n)) (power_sum k xs n) (power_sum h xs n)

-- one coefficient: l s(n + m) is the sum over l x^m
power_sum_scale : (l m n : ℕ) (xs : List ℕ) → mul l (power_sum (λ x. 1) xs (n + m)) ≡ power_sum (λ x. mul l (power x m)) xs n
unfolding power_sum
power_sum_scale l m n [] = zero_r l
power_sum_scale l m n (x ∷ xs) =
    dist l (mul 1 (power x (n + m))) (power_sum (λ x. 1) xs (n + m))
    ∙ ap₂ bit_xor
    (ap (mul l) (one_mul (power x (n + m)) (power_small x (n + m)) ∙ power_add x n m ∙ comm (power x n) (power x m))
    ∙ sym (assoc l (power x m) (power x n)))
    (power_sum_scale l m n xs)

recurrence_power_sum : (xs : List ℕ) (n : ℕ) (ls : List ℕ) → recurrence (power_sum (λ x. 1) xs) n ls ≡ power_sum (λ x. value x ls) xs n
unfolding recurrence value
recurrence_power_sum xs n [] = sym (power_sum_nought xs n (λ x. 0) (λ x. refl))
recurrence_power_sum xs n (l ∷ ls) =
    ap₂ bit_xor (power_sum_scale l (length ls) n xs) (recurrence_power_sum xs n ls)
    ∙ sym (power_sum_plus (λ x. mul l (power x (length ls))) (λ x. value x ls) xs n)

pub value_small : (x : ℕ) (ls : List ℕ) → value x ls < 128
unfolding value
value_small x [] = lit< tt
value_small x (l ∷ ls) = xor_lt 7 (mul l (power x (length ls))) (value x ls) (mul_small l (power x (length ls))) (value_small x ls)

-- a polynomial whose recurrence the power sums obey has each of the locators as a root
pub locates : (xs : List ℕ) → Distinct xs → Each Nonzero xs → (ls : List ℕ)
    → ((i : ℕ) → i < length xs → recurrence (power_sum (λ x. 1) xs) (suc i) ls ≡ 0) → Each (λ x. value x ls ≡ 0) xs
locates xs distinct nonzero ls eqs =
    vandermonde xs distinct nonzero (λ x. value x ls) (λ x. value_small x ls) (λ i h. sym (recurrence_power_sum xs (suc i) ls) ∙ eqs i h)

-- the product by x + a, of the polynomial with the coefficients p and then ls
by_linear : ℕ → ℕ → List ℕ → List ℕ
by_linear c p [] = mul c p ∷ []
by_linear c p (l ∷ ls) = bit_xor l (mul c p) ∷ by_linear c l ls

by_linear_length : (c p : ℕ) (ls : List ℕ) → length (by_linear c p ls) ≡ suc (length ls)
unfolding by_linear
by_linear_length c p [] = refl
by_linear_length c p (l ∷ ls) = ap suc (by_linear_length c l ls)

by_linear_sorted : (p l c x y w : ℕ)
    → bit_xor (mul p (mul x y)) (bit_xor (mul (bit_xor l (mul c p)) y) w) ≡ bit_xor (mul (bit_xor x c) (mul p y)) (bit_xor (mul l y) w)
by_linear_sorted p l c x y w = simp ring

by_linear_last : (p x c u : ℕ) → bit_xor (mul p (mul x u)) (bit_xor (mul (mul c p) u) 0) ≡ mul (bit_xor x c) (bit_xor (mul p u) 0)
by_linear_last p x c u = simp ring-zero

by_linear_value : (c x p : ℕ) (ls : List ℕ) → value x (p ∷ by_linear c p ls) ≡ mul (bit_xor x c) (value x (p ∷ ls))
unfolding by_linear value power
by_linear_value c x p [] = by_linear_last p x c 1
by_linear_value c x p (l ∷ ls) =
    ap (λ (m : ℕ). bit_xor (mul p (mul x (power x m))) (bit_xor (mul (bit_xor l (mul c p)) (power x m)) (value x (by_linear c l ls))))
    (by_linear_length c l ls)
    ∙ by_linear_sorted p l c x (mul x (power x (length ls))) (value x (by_linear c l ls))
    ∙ ap (bit_xor (mul (bit_xor x c) (mul p (mul x (power x (length ls))))))
    (ap (λ (m : ℕ). bit_xor (mul l (power x m)) (value x (by_linear c l ls))) (sym (by_linear_length c l ls)) ∙ by_linear_value c x l ls)
    ∙ sym (dist (bit_xor x c) (mul p (mul x (power x (length ls)))) (bit_xor (mul l (power x (length ls))) (value x ls)))

-- the product of the x + X, without its first coefficient 1
product : List ℕ → List ℕ
product [] = []
product (x ∷ xs) = by_linear x 1 (product xs)

product_length : (xs : List ℕ) → length (product xs) ≡ length xs
unfolding product
product_length [] = refl
product_length (x ∷ xs) = by_linear_length x 1 (product xs) ∙ ap suc (product_length xs)

product_more : (x y : ℕ) (xs : List ℕ) → value y (1 ∷ product xs) ≡ 0 → value y (1 ∷ product (x ∷ xs)) ≡ 0
unfolding product
product_more x y xs e = by_linear_value x y 1 (product xs) ∙ ap (mul (bit_xor y x)) e ∙ zero_r (bit_xor y x)

product_roots : (xs : List ℕ) → Each (λ x. value x (1 ∷ product xs) ≡ 0) xs
unfolding product
product_roots [] = tt
product_roots (x ∷ xs) = (
  by_linear_value x x 1 (product xs) ∙ ap (λ (z : ℕ). mul z (value x (1 ∷ product xs))) (xor_self x) ∙ zero_l (value x (1 ∷ product xs)),
  each_map (λ y. value y (1 ∷ product xs) ≡ 0) (λ y. value y (1 ∷ by_linear x 1 (product xs)) ≡ 0) xs (λ y e. product_more x y xs e)
      (product_roots xs),
)

-- there is a monic polynomial of as many coefficients whose recurrence the power sums obey everywhere: the locator
pub locator : (xs : List ℕ)
    → (ls : List ℕ) × (length ls ≡ length xs) × ((n : ℕ) → recurrence (power_sum (λ x. 1) xs) n (1 ∷ ls) ≡ 0)
locator xs = (
  product xs,
  product_length xs,
  λ n. recurrence_power_sum xs n (1 ∷ product xs) ∙ power_sum_zero (λ x. value x (1 ∷ product xs)) xs n (product_roots xs),
)

-- the quotient by x + a, and the rest, which is the value at a
quotient : ℕ → ℕ → List ℕ → List ℕ
quotient a p [] = []
quotient a p (l ∷ ls) = p ∷ quotient a (bit_xor l (mul a p)) ls

rest : ℕ → ℕ → List ℕ → ℕ
rest a p [] = mul p 1
rest a p (l ∷ ls) = rest a (bit_xor l (mul a p)) ls

quotient_length : (a p : ℕ) (ls : List ℕ) → length (quotient a p ls) ≡ length ls
unfolding quotient
quotient_length a p [] = refl
quotient_length a p (l ∷ ls) = ap suc (quotient_length a (bit_xor l (mul a p)) ls)

quotient_sorted : (x a p l y v : ℕ)
    → bit_xor (mul p (mul x y)) (bit_xor (mul l y) v) ≡ bit_xor (mul (bit_xor x a) (mul p y)) (bit_xor (mul (bit_xor l (mul a p)) y) v)
quotient_sorted x a p l y v = simp ring-zero

quotient_value : (a x p : ℕ) (ls : List ℕ) → value x (p ∷ ls) ≡ bit_xor (mul (bit_xor x a) (value x (quotient a p ls))) (rest a p ls)
unfolding quotient rest value power
quotient_value a x p [] = xor_zero_r (mul p 1) ∙ ap (λ (z : ℕ). bit_xor z (mul p 1)) (sym (zero_r (bit_xor x a)))
quotient_value a x p (l ∷ ls) =
    quotient_sorted x a p l (power x (length ls)) (value x ls)
    ∙ ap₂ bit_xor (ap (λ (m : ℕ). mul (bit_xor x a) (mul p (power x m))) (sym (quotient_length a (bit_xor l (mul a p)) ls)))
    (quotient_value a x (bit_xor l (mul a p)) ls)
    ∙ sym (xor_assoc (mul (bit_xor x a) (mul p (power x (length (quotient a (bit_xor l (mul a p)) ls)))))
    (mul (bit_xor x a) (value x (quotient a (bit_xor l (mul a p)) ls))) (rest a (bit_xor l (mul a p)) ls))
    ∙ ap (λ (z : ℕ). bit_xor z (rest a (bit_xor l (mul a p)) ls))
    (sym (dist (bit_xor x a) (mul p (power x (length (quotient a (bit_xor l (mul a p)) ls)))) (value x (quotient a (bit_xor l (mul a p)) ls))))

rest_root : (a p : ℕ) (ls : List ℕ) → value a (p ∷ ls) ≡ 0 → rest a p ls ≡ 0
rest_root a p ls e =
    ap (λ (z : ℕ). bit_xor z (rest a p ls))
    (sym (ap (λ (z : ℕ). mul z (value a (quotient a p ls))) (xor_self a) ∙ zero_l (value a (quotient a p ls))))
    ∙ sym (quotient_value a a p ls) ∙ e

root_more : (a y p : ℕ) (ls : List ℕ) → a < 128 → y < 128 → (a ≡ y → ⊥) → value a (p ∷ ls) ≡ 0 → value y (p ∷ ls) ≡ 0
    → value y (quotient a p ls) ≡ 0
root_more a y p ls ha hy n ea ey =
    cancel (value y (quotient a p ls)) (bit_xor y a) (value_small y (quotient a p ls)) (xor_lt 7 y a hy ha) (λ z. n (sym (xor_same y a z)))
    (comm (value y (quotient a p ls)) (bit_xor y a) ∙ sym (xor_zero_r (mul (bit_xor y a) (value y (quotient a p ls))))
    ∙ ap (bit_xor (mul (bit_xor y a) (value y (quotient a p ls)))) (sym (rest_root a p ls ea)) ∙ sym (quotient_value a y p ls) ∙ ey)

lead : (a : ℕ) → value a (1 ∷ []) ≡ 1
unfolding value power
lead a = xor_zero_r (mul 1 1) ∙ one_mul 1 (lit< tt)

-- a monic polynomial has no more roots than its degree
pub few_roots : (ys : List ℕ) → Distinct ys → Each (λ y. y < 128) ys → (ls : List ℕ)
    → Each (λ y. value y (1 ∷ ls) ≡ 0) ys → length ys ≤ length ls
unfolding quotient
few_roots [] distinct small ls h = omega arith
few_roots (a ∷ ys) distinct small [] h = let e : ◌≡◌ {A = ℕ} 1 0 = sym (lead a) ∙ h.0 in omega arith
few_roots (a ∷ ys) distinct small (l ∷ ls) h =
    let q : Each (λ y. value y (1 ∷ quotient a (bit_xor l (mul a 1)) ls) ≡ 0) ys =
    each_with (λ y. (y < 128) × (a ≡ y → ⊥)) (λ y. value y (1 ∷ l ∷ ls) ≡ 0) (λ y. value y (1 ∷ quotient a (bit_xor l (mul a 1)) ls) ≡ 0) ys
    (λ y n e. root_more a y 1 (l ∷ ls) small.0 n.0 n.1 h.0 e)
    (each_with (λ y. y < 128) (λ y. a ≡ y → ⊥) (λ y. (y < 128) × (a ≡ y → ⊥)) ys (λ y s n. (s, n)) small.1 distinct.0) h.1
    in
    let k : length ys ≤ length (quotient a (bit_xor l (mul a 1)) ls) = few_roots ys distinct.1 small.1
    (quotient a (bit_xor l (mul a 1)) ls) q in
    omega (arith, quotient_length a (bit_xor l (mul a 1)) ls)
