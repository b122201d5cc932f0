-- Power sums, and the one lemma that does two jobs: if the sums of k(X)·X^i over n distinct nonzero X vanish for i = 1 to n,
-- then each k(X) is zero. (The Vandermonde matrix is regular; here by induction, and for coefficients that may hang on X.)
-- With k = 1 it is the minimum distance, with k = the value of a candidate locator it finds the errors among its roots.
use Rattle.std.proofs.Common.{◌≡◌, ℕ, suc, ◌<◌, List, [], ◌∷◌, length, sym, refl, ap, ◌∙◌, ap₂, arith}
use lib.Bits.{bit_xor, xor_self, xor_lt, xor_zero_r}
use Rattle.coding.proofs.Sums.{xor_swap, xor_same}
use Rattle.field.specs.Field.{mul, power}
use Rattle.field.proofs.Elements.{assoc, dist, mul_small, mul_one, zero_r, zero_l, dist_l, left_comm, cancel}

-- each of a list has a property
abbrev pub Each : (ℕ → Type 0) → List ℕ → Type 0
Each P [] = Unit {0}
Each P (x ∷ xs) = P x × Each P xs

-- no two are equal
abbrev pub Distinct : List ℕ → Type 0
Distinct [] = Unit {0}
Distinct (x ∷ xs) = Each (λ y. x ≡ y → ⊥) xs × Distinct xs

pub record Nonzero (x : ℕ) : Type 0 where
  pub small : x < 128
  pub pos : 0 < x

pub each_map : (P Q : ℕ → Type 0) (xs : List ℕ) → ((x : ℕ) → P x → Q x) → Each P xs → Each Q xs
each_map P Q [] f h = tt
each_map P Q (x ∷ xs) f h = (f x h.0, each_map P Q xs f h.1)

pub each_with : (P Q R : ℕ → Type 0) (xs : List ℕ) → ((x : ℕ) → P x → Q x → R x) → Each P xs → Each Q xs → Each R xs
each_with P Q R [] f h g = tt
each_with P Q R (x ∷ xs) f h g = (f x h.0 g.0, each_with P Q R xs f h.1 g.1)

-- the sum of the k(X)·X^i over the X of a list
unfoldable pub power_sum : (ℕ → ℕ) → List ℕ → ℕ → ℕ
power_sum k [] i = 0
power_sum k (x ∷ xs) i = bit_xor (mul (k x) (power x i)) (power_sum k xs i)

-- the sum for i + 1 and x times the sum for i: k(Y) becomes k(Y)·(Y + x), and what x itself adds is gone
less : (ℕ → ℕ) → ℕ → ℕ → ℕ
less k x y = mul (k y) (bit_xor y x)

term : (kk x y p : ℕ) → bit_xor (mul kk (mul y p)) (mul x (mul kk p)) ≡ mul (mul kk (bit_xor y x)) p
term kk x y p =
    sym (assoc kk (bit_xor y x) p ∙ ap (mul kk) (dist_l y x p) ∙ dist kk (mul y p) (mul x p)
    ∙ ap (bit_xor (mul kk (mul y p))) (left_comm kk x p))

head_term : (k : ℕ → ℕ) (x y i : ℕ) → bit_xor (mul (k y) (power y (suc i))) (mul x (mul (k y) (power y i))) ≡ mul (less k x y) (power y i)
unfolding power less
head_term k x y i = term (k y) x y (power y i)

shift : (k : ℕ → ℕ) (x : ℕ) (xs : List ℕ) (i : ℕ) → bit_xor (power_sum k xs (suc i)) (mul x (power_sum k xs i)) ≡ power_sum (less k x) xs i
unfolding power_sum
shift k x [] i = zero_r x
shift k x (y ∷ ys) i =
    ap (bit_xor (bit_xor (mul (k y) (power y (suc i))) (power_sum k ys (suc i)))) (dist x (mul (k y) (power y i)) (power_sum k ys i))
    ∙ xor_swap (mul (k y) (power y (suc i))) (power_sum k ys (suc i)) (mul x (mul (k y) (power y i))) (mul x (power_sum k ys i))
    ∙ ap₂ bit_xor (head_term k x y i) (shift k x ys i)

gone : (k : ℕ → ℕ) (x : ℕ) (xs : List ℕ) (i : ℕ) → bit_xor (power_sum k (x ∷ xs) (suc i)) (mul x (power_sum k (x ∷ xs) i)) ≡ power_sum
    (less k x) xs i
unfolding power_sum less
gone k x xs i = shift k x (x ∷ xs) i ∙ ap (λ (n : ℕ). bit_xor n (power_sum (less k x) xs i))
    (ap (λ (n : ℕ). mul (mul (k x) n) (power x i)) (xor_self x) ∙ ap (λ (n : ℕ). mul n (power x i)) (zero_r (k x)) ∙ zero_l (power x i))

pub power_sum_zero : (k : ℕ → ℕ) (xs : List ℕ) (i : ℕ) → Each (λ x. k x ≡ 0) xs → power_sum k xs i ≡ 0
unfolding power_sum
power_sum_zero k [] i h = refl
power_sum_zero k (x ∷ xs) i h = ap₂ bit_xor (ap (λ (n : ℕ). mul n (power x i)) h.0 ∙ zero_l (power x i)) (power_sum_zero k xs i h.1)

-- once the others are known to be zero, the first is
head_zero : (k : ℕ → ℕ) (x : ℕ) (xs : List ℕ) → k x < 128 → Nonzero x → power_sum k (x ∷ xs) 1 ≡ 0 → Each (λ x. k x ≡ 0) xs → k x ≡ 0
unfolding power_sum power
head_zero k x xs kx u e h =
    cancel (k x) x kx u.small (λ z. omega (arith, z, u.pos))
    (ap (mul (k x)) (sym (mul_one x u.small)) ∙ sym (xor_zero_r (mul (k x) (mul x 1)))
    ∙ sym (ap (bit_xor (mul (k x) (mul x 1))) (power_sum_zero k xs 1 h)) ∙ e)

-- the equations of the others, and back
less_zero : (k : ℕ → ℕ) (x y : ℕ) → k y < 128 → x < 128 → y < 128 → (x ≡ y → ⊥) → less k x y ≡ 0 → k y ≡ 0
unfolding less
less_zero k x y ky hx hy n e = cancel (k y) (bit_xor y x) ky (xor_lt 7 y x hy hx) (λ z. n (sym (xor_same y x z))) e

less_small : (k : ℕ → ℕ) (x y : ℕ) → less k x y < 128
unfolding less
less_small k x y = mul_small (k y) (bit_xor y x)

eqs_rest : (k : ℕ → ℕ) (x : ℕ) (xs : List ℕ) (i : ℕ) → power_sum k (x ∷ xs) (suc i) ≡ 0 → power_sum k (x ∷ xs) i ≡ 0
    → power_sum (less k x) xs i ≡ 0
eqs_rest k x xs i e f = sym (gone k x xs i) ∙ ap₂ bit_xor e (ap (mul x) f ∙ zero_r x)

pub vandermonde : (xs : List ℕ) → Distinct xs → Each Nonzero xs → (k : ℕ → ℕ) → ((x : ℕ) → k x < 128)
    → ((i : ℕ) → i < length xs → power_sum k xs (suc i) ≡ 0) → Each (λ x. k x ≡ 0) xs
vandermonde [] distinct nonzero k ks eqs = tt
vandermonde (x ∷ xs) distinct nonzero k ks eqs =
    let scaled : Each (λ y. less k x y ≡ 0) xs =
    vandermonde xs distinct.1 nonzero.1 (less k x) (less_small k x)
    (λ i h. eqs_rest k x xs (suc i) (eqs (suc i) (omega arith)) (eqs i (omega arith)))
    in
    let free : Each (λ y. less k x y ≡ 0 → k y ≡ 0) xs =
    each_with (λ y. x ≡ y → ⊥) Nonzero (λ y. less k x y ≡ 0 → k y ≡ 0) xs
    (λ y n u. less_zero k x y (ks y) nonzero.0.small u.small n) distinct.0 nonzero.1
    in
    let rest : Each (λ y. k y ≡ 0) xs =
    each_with (λ y. less k x y ≡ 0 → k y ≡ 0) (λ y. less k x y ≡ 0) (λ y. k y ≡ 0) xs (λ y f e. f e) free scaled
    in
    (head_zero k x xs (ks x) nonzero.0 (eqs 0 (omega arith)) rest, rest)
