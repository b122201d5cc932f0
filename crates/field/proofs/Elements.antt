-- GF(128) is a field. Each element but 0 is a power of c, and the product by c^k is linear: the laws of the product follow
-- from those of sums of exponents.
use Rattle.std.proofs.Common.{◌≡◌, ℕ, zero, suc, ◌+◌, ◌*◌, ◌/◌, ◌%◌, ◌<◌, Bool, true, ◌&&◌, eqb, ltb, ◌⊎◌, List, [], ◌∷◌, get_or, sym, refl, ap, ◌∙◌, subst, ap₂, inl, inr, ⊎_elim, mod-lt, mod-eq_of_lt, mul_comm, add_comm, suc-add, mul-zero, zero-add, mul-suc, arith, lit<}
use lib.Bits.{bit_xor, xor_comm, xor_assoc, xor_self, xor_lt, xor_shr, xor_mod, xor_zero_r}
use Rattle.std.proofs.lemmas.Bool.{eqb-true, ltb-true, and_parts}
use Rattle.coding.proofs.Sums.{xor_swap, xor_left_comm, xor_cancel, double_xor, bit_xor_times}
use Rattle.field.specs.Field.{by_c, by_power, shift_add, mul, exp, power, inverse, FieldLaws}
use Rattle.field.proofs.Tables.{every_below, at_each}

-- ---- a bit times an element
pub bit_cases : (P : ℕ → Type 0) → P 0 → P 1 → (b : ℕ) → b < 2 → P b
bit_cases P z o zero h = z
bit_cases P z o (suc zero) h = o
bit_cases P z o (suc (suc b)) h = absurd (omega arith)

none_of : (x : ℕ) → 0 * x ≡ 0
none_of x = omega arith

one_of : (x : ℕ) → 1 * x ≡ x
one_of x = omega arith

bit_small : (b x n : ℕ) → b < 2 → x < n → b * x < n
bit_small b x n hb h = bit_cases (λ b. b * x < n) (omega arith) (omega arith) b hb

pub by_c_xor : (x y : ℕ) → by_c (bit_xor x y) ≡ bit_xor (by_c x) (by_c y)
unfolding by_c
by_c_xor x y =
    ap₂ bit_xor (ap (λ (z : ℕ). z % 128) (double_xor x y) ∙ xor_mod (x * 2) (y * 2) 7)
    (ap (λ (z : ℕ). z * 65) (ap (λ (z : ℕ). z % 2) (xor_shr x y 6) ∙ xor_mod (x / 64) (y / 64) 1)
    ∙ bit_xor_times (x / 64 % 2) (y / 64 % 2) 65 (omega arith) (omega arith))
    ∙ xor_swap (x * 2 % 128) (y * 2 % 128) (x / 64 % 2 * 65) (y / 64 % 2 * 65)

pub by_c_zero : by_c 0 ≡ 0
unfolding by_c
by_c_zero = refl

pub by_c_small : (x : ℕ) → by_c x < 128
unfolding by_c
by_c_small x = xor_lt 7 (x * 2 % 128) (x / 64 % 2 * 65) (omega arith) (bit_small (x / 64 % 2) 65 128 (omega arith) (lit< tt))

by_c_bit : (b x : ℕ) → b < 2 → by_c (b * x) ≡ b * by_c x
by_c_bit b x h =
    bit_cases (λ b. by_c (b * x) ≡ b * by_c x)
    (ap by_c (none_of x) ∙ by_c_zero ∙ sym (none_of (by_c x)))
    (ap by_c (one_of x) ∙ sym (one_of (by_c x))) b h

pub by_power_xor : (k x y : ℕ) → by_power k (bit_xor x y) ≡ bit_xor (by_power k x) (by_power k y)
unfolding by_power
by_power_xor zero x y = refl
by_power_xor (suc k) x y = ap by_c (by_power_xor k x y) ∙ by_c_xor (by_power k x) (by_power k y)

pub by_power_zero : (k : ℕ) → by_power k 0 ≡ 0
unfolding by_power
by_power_zero zero = refl
by_power_zero (suc k) = ap by_c (by_power_zero k) ∙ by_c_zero

pub by_power_add : (i j x : ℕ) → by_power i (by_power j x) ≡ by_power (i + j) x
unfolding by_power
by_power_add zero j x = ap (λ (n : ℕ). by_power n x) (sym (zero-add j))
by_power_add (suc i) j x = ap by_c (by_power_add i j x) ∙ ap (λ (n : ℕ). by_power n x) (sym (suc-add i j))

pub by_power_small : (k x : ℕ) → x < 128 → by_power k x < 128
unfolding by_power
by_power_small zero x h = h
by_power_small (suc k) x h = by_c_small (by_power k x)

pub shift_add_by_c : (n x y : ℕ) → shift_add n (by_c x) y ≡ by_c (shift_add n x y)
unfolding shift_add
shift_add_by_c zero x y = sym by_c_zero
shift_add_by_c (suc n) x y =
    ap₂ bit_xor (sym (by_c_bit (y % 2) x (omega arith))) (shift_add_by_c n (by_c x) (y / 2))
    ∙ sym (by_c_xor (y % 2 * x) (shift_add n (by_c x) (y / 2)))

pub shift_add_by_power : (k n x y : ℕ) → shift_add n (by_power k x) y ≡ by_power k (shift_add n x y)
unfolding by_power
shift_add_by_power zero n x y = refl
shift_add_by_power (suc k) n x y = shift_add_by_c n (by_power k x) y ∙ ap by_c (shift_add_by_power k n x y)

pub shift_add_zero : (n y : ℕ) → shift_add n 0 y ≡ 0
unfolding shift_add
shift_add_zero zero y = refl
shift_add_zero (suc n) y =
    let z : y % 2 * 0 ≡ 0 = omega arith in
    ap₂ bit_xor z (ap (λ (x : ℕ). shift_add n x (y / 2)) by_c_zero ∙ shift_add_zero n (y / 2))

-- ---- computed: 1 is neutral, each element but 0 has its logarithm below 127, and the product by c has no kernel
one_test : ℕ → Bool
one_test y = eqb (shift_add 7 1 y) y

one_all : every_below one_test 128 ≡ true
unfolding every_below one_test shift_add by_c
one_all = refl

-- the logarithms to the base c; that of 0 means nothing
unfoldable pub logarithms : List ℕ
logarithms =
    0 ∷ 0 ∷ 1 ∷ 121 ∷ 2 ∷ 115 ∷ 122 ∷ 73 ∷ 3 ∷ 67 ∷ 116 ∷ 40 ∷ 123 ∷ 99 ∷ 74 ∷ 109 ∷
    4 ∷ 103 ∷ 68 ∷ 23 ∷ 117 ∷ 19 ∷ 41 ∷ 93 ∷ 124 ∷ 64 ∷ 100 ∷ 61 ∷ 75 ∷ 34 ∷ 110 ∷ 84 ∷
    5 ∷ 78 ∷ 104 ∷ 45 ∷ 69 ∷ 89 ∷ 24 ∷ 28 ∷ 118 ∷ 37 ∷ 20 ∷ 58 ∷ 42 ∷ 55 ∷ 94 ∷ 50 ∷
    125 ∷ 113 ∷ 65 ∷ 97 ∷ 101 ∷ 17 ∷ 62 ∷ 32 ∷ 76 ∷ 87 ∷ 35 ∷ 53 ∷ 111 ∷ 15 ∷ 85 ∷ 13 ∷
    6 ∷ 7 ∷ 79 ∷ 8 ∷ 105 ∷ 80 ∷ 46 ∷ 9 ∷ 70 ∷ 106 ∷ 90 ∷ 81 ∷ 25 ∷ 47 ∷ 29 ∷ 10 ∷
    119 ∷ 71 ∷ 38 ∷ 107 ∷ 21 ∷ 91 ∷ 59 ∷ 82 ∷ 43 ∷ 26 ∷ 56 ∷ 48 ∷ 95 ∷ 30 ∷ 51 ∷ 11 ∷
    126 ∷ 120 ∷ 114 ∷ 72 ∷ 66 ∷ 39 ∷ 98 ∷ 108 ∷ 102 ∷ 22 ∷ 18 ∷ 92 ∷ 63 ∷ 60 ∷ 33 ∷ 83 ∷
    77 ∷ 44 ∷ 88 ∷ 27 ∷ 36 ∷ 57 ∷ 54 ∷ 49 ∷ 112 ∷ 96 ∷ 16 ∷ 31 ∷ 86 ∷ 52 ∷ 14 ∷ 12 ∷ []

log_test : ℕ → Bool
log_test zero = true
log_test (suc x) = eqb (by_power (get_or logarithms (suc x) 0) 1) (suc x) && ltb (get_or logarithms (suc x) 0) 127

log_all : every_below log_test 128 ≡ true
unfolding every_below log_test by_power by_c logarithms
log_all = refl

kernel_test : ℕ → Bool
kernel_test zero = true
kernel_test (suc x) = ltb 0 (by_c (suc x))

kernel_all : every_below kernel_test 128 ≡ true
unfolding every_below kernel_test by_c
kernel_all = refl

pub shift_add_one : (y : ℕ) → y < 128 → shift_add 7 1 y ≡ y
unfolding one_test
shift_add_one y h = eqb-true (shift_add 7 1 y) y (at_each one_test 128 one_all y h)

-- an element is zero or a power of c
pub logarithm : (x : ℕ) → 0 < x → x < 128 → (x ≡ exp (get_or logarithms x 0)) × (get_or logarithms x 0 < 127)
unfolding log_test exp
logarithm zero p h = absurd (omega arith)
logarithm (suc x) p h =
    let t = and_parts (eqb (by_power (get_or logarithms (suc x) 0) 1) (suc x)) (ltb (get_or logarithms (suc x) 0) 127)
    (at_each log_test 128 log_all (suc x) h)
    in
    (sym (eqb-true (by_power (get_or logarithms (suc x) 0) 1) (suc x) t.0), ltb-true (get_or logarithms (suc x) 0) 127 t.1)

pub logged : (x : ℕ) → x < 128 → (x ≡ 0) ⊎ ((k : ℕ) × (x ≡ exp k))
logged zero h = inl refl
logged (suc x) h = inr (get_or logarithms (suc x) 0, (logarithm (suc x) (omega arith) h).0)

by_c_kernel : (x : ℕ) → x < 128 → 0 < x → 0 < by_c x
unfolding kernel_test
by_c_kernel zero h p = absurd (omega arith)
by_c_kernel (suc x) h p = ltb-true 0 (by_c (suc x)) (at_each kernel_test 128 kernel_all (suc x) h)

pub exp_pos : (k : ℕ) → 0 < exp k
unfolding exp by_power
exp_pos zero = lit< tt
exp_pos (suc k) = by_c_kernel (by_power k 1) (by_power_small k 1 (lit< tt)) (exp_pos k)

pub exp_small : (k : ℕ) → exp k < 128
unfolding exp
exp_small k = by_power_small k 1 (lit< tt)

pub mul_mod : (x y : ℕ) → mul x y ≡ mul (x % 128) (y % 128)
unfolding mul
mul_mod x y = sym (ap₂ (shift_add 7) (mod-eq_of_lt (mod-lt x (lit< tt))) (mod-eq_of_lt (mod-lt y (lit< tt))))

-- the product by cases on the left factor
pub mul_zero' : (x y : ℕ) → x % 128 ≡ 0 → mul x y ≡ 0
unfolding mul
mul_zero' x y e = ap (λ (z : ℕ). shift_add 7 z (y % 128)) e ∙ shift_add_zero 7 (y % 128)

pub mul_exp' : (x y k : ℕ) → x % 128 ≡ exp k → mul x y ≡ by_power k (y % 128)
unfolding mul exp
mul_exp' x y k e = ap (λ (z : ℕ). shift_add 7 z (y % 128)) e ∙ shift_add_by_power k 7 1 (y % 128)
    ∙ ap (by_power k) (shift_add_one (y % 128) (mod-lt y (lit< tt)))

pub cases : (x : ℕ) → (x % 128 ≡ 0) ⊎ ((k : ℕ) × (x % 128 ≡ exp k))
cases x = logged (x % 128) (mod-lt x (lit< tt))

pub mod_zero_r : (k y : ℕ) → y % 128 ≡ 0 → by_power k (y % 128) ≡ 0
mod_zero_r k y e = ap (by_power k) e ∙ by_power_zero k

pub exp_mod : (k : ℕ) → exp k % 128 ≡ exp k
exp_mod k = mod-eq_of_lt (exp_small k)

pub mul_small : (x y : ℕ) → mul x y < 128
mul_small x y =
    ⊎_elim (λ e. subst (λ (n : ℕ). n < 128) (sym (mul_zero' x y e)) (lit< tt))
    (λ (p : (k : ℕ) × (x % 128 ≡ exp k)). subst (λ (n : ℕ). n < 128) (sym (mul_exp' x y p.0 p.1))
    (by_power_small p.0 (y % 128) (mod-lt y (lit< tt))))
    (cases x)

pub dist : (x y z : ℕ) → mul x (bit_xor y z) ≡ bit_xor (mul x y) (mul x z)
dist x y z =
    ⊎_elim (λ e. mul_zero' x (bit_xor y z) e ∙ sym (ap₂ bit_xor (mul_zero' x y e) (mul_zero' x z e)))
    (λ (p : (k : ℕ) × (x % 128 ≡ exp k)).
    mul_exp' x (bit_xor y z) p.0 p.1 ∙ ap (by_power p.0) (xor_mod y z 7) ∙ by_power_xor p.0 (y % 128) (z % 128)
    ∙ sym (ap₂ bit_xor (mul_exp' x y p.0 p.1) (mul_exp' x z p.0 p.1)))
    (cases x)

pub mul_zero_r' : (x y : ℕ) → y % 128 ≡ 0 → mul x y ≡ 0
mul_zero_r' x y e =
    ⊎_elim (λ d. mul_zero' x y d) (λ (p : (k : ℕ) × (x % 128 ≡ exp k)). mul_exp' x y p.0 p.1 ∙ mod_zero_r p.0 y e) (cases x)

-- two powers
pub mul_exps : (x y i j : ℕ) → x % 128 ≡ exp i → y % 128 ≡ exp j → mul x y ≡ exp (i + j)
unfolding exp
mul_exps x y i j e f = mul_exp' x y i e ∙ ap (by_power i) f ∙ by_power_add i j 1

pub comm : (x y : ℕ) → mul x y ≡ mul y x
comm x y =
    ⊎_elim (λ e. mul_zero' x y e ∙ sym (mul_zero_r' y x e))
    (λ (p : (k : ℕ) × (x % 128 ≡ exp k)).
    ⊎_elim (λ e. mul_zero_r' x y e ∙ sym (mul_zero' y x e))
    (λ (q : (k : ℕ) × (y % 128 ≡ exp k)).
    mul_exps x y p.0 q.0 p.1 q.1 ∙ ap exp (add_comm p.0 q.0) ∙ sym (mul_exps y x q.0 p.0 q.1 p.1))
    (cases y))
    (cases x)

pub small_mod : (x : ℕ) → x < 128 → x % 128 ≡ x
small_mod x h = mod-eq_of_lt h

pub assoc : (x y z : ℕ) → mul (mul x y) z ≡ mul x (mul y z)
assoc x y z =
    ⊎_elim (λ e. mul_zero' (mul x y) z (ap (λ (n : ℕ). n % 128) (mul_zero' x y e)) ∙ sym (mul_zero' x (mul y z) e))
    (λ (p : (k : ℕ) × (x % 128 ≡ exp k)).
    ⊎_elim
    (λ e. mul_zero' (mul x y) z (ap (λ (n : ℕ). n % 128) (mul_zero_r' x y e))
    ∙ sym (mul_zero_r' x (mul y z) (ap (λ (n : ℕ). n % 128) (mul_zero' y z e))))
    (λ (q : (k : ℕ) × (y % 128 ≡ exp k)).
    mul_exp' (mul x y) z (p.0 + q.0) (small_mod (mul x y) (mul_small x y) ∙ mul_exps x y p.0 q.0 p.1 q.1)
    ∙ sym (by_power_add p.0 q.0 (z % 128))
    ∙ sym (mul_exp' x (mul y z) p.0 p.1 ∙ ap (by_power p.0) (small_mod (mul y z) (mul_small y z) ∙ mul_exp' y z q.0 q.1)))
    (cases y))
    (cases x)

pub one : (x : ℕ) → mul 1 x ≡ x % 128
unfolding mul
one x = shift_add_one (x % 128) (mod-lt x (lit< tt))

pub domain : (x y : ℕ) → x < 128 → y < 128 → mul x y ≡ 0 → (x ≡ 0) ⊎ (y ≡ 0)
domain x y hx hy e =
    ⊎_elim (λ d. inl d)
    (λ (p : (k : ℕ) × (x ≡ exp k)).
    ⊎_elim (λ d. inr d)
    (λ (q : (k : ℕ) × (y ≡ exp k)).
    absurd (let z : exp (p.0 + q.0) ≡ 0 = sym (mul_exps x y p.0 q.0 (small_mod x hx ∙ p.1) (small_mod y hy ∙ q.1)) ∙ e in
    omega (arith, z, exp_pos (p.0 + q.0))))
    (logged y hy))
    (logged x hx)

-- ---- what follows from the laws
pub mul_one : (x : ℕ) → x < 128 → mul x 1 ≡ x
mul_one x h = comm x 1 ∙ one x ∙ mod-eq_of_lt h

pub one_mul : (x : ℕ) → x < 128 → mul 1 x ≡ x
one_mul x h = one x ∙ mod-eq_of_lt h

pub zero_r : (x : ℕ) → mul x 0 ≡ 0
zero_r x = dist x 0 0 ∙ xor_self (mul x 0)

pub zero_l : (x : ℕ) → mul 0 x ≡ 0
zero_l x = comm 0 x ∙ zero_r x

pub dist_l : (x y z : ℕ) → mul (bit_xor x y) z ≡ bit_xor (mul x z) (mul y z)
dist_l x y z = comm (bit_xor x y) z ∙ dist z x y ∙ ap₂ bit_xor (comm z x) (comm z y)

pub left_comm : (x y z : ℕ) → mul x (mul y z) ≡ mul y (mul x z)
left_comm x y z = sym (assoc x y z) ∙ ap (λ (n : ℕ). mul n z) (comm x y) ∙ assoc y x z

-- a factor that is not zero goes
pub cancel : (a b : ℕ) → a < 128 → b < 128 → (b ≡ 0 → ⊥) → mul a b ≡ 0 → a ≡ 0
cancel a b ha hb n e = ⊎_elim (λ d. d) (λ d. absurd (n d)) (domain a b ha hb e)

-- sums of products, sorted alike on both sides of an equation; and with what cancels gone
pub ruleset ring = (dist, dist_l, assoc, comm, left_comm, xor_assoc, xor_comm, xor_left_comm)

pub ruleset ring-zero = (xor_cancel, xor_self, xor_zero_r, zero_r, zero_l, ring)

-- ---- powers
pub power_small : (a n : ℕ) → power a n < 128
unfolding power
power_small a zero = lit< tt
power_small a (suc n) = mul_small a (power a n)

pub power_add : (a m n : ℕ) → power a (m + n) ≡ mul (power a m) (power a n)
unfolding power
power_add a zero n = ap (power a) (zero-add n) ∙ sym (one_mul (power a n) (power_small a n))
power_add a (suc m) n = ap (power a) (suc-add m n) ∙ ap (mul a) (power_add a m n) ∙ sym (assoc a (power a m) (power a n))

pub exp_add : (i j : ℕ) → mul (exp i) (exp j) ≡ exp (i + j)
exp_add i j = mul_exps (exp i) (exp j) i j (exp_mod i) (exp_mod j)

pub exp_nought : exp 0 ≡ 1
unfolding exp by_power
exp_nought = refl

pub exp_next : (k : ℕ) → by_c (exp k) ≡ exp (suc k)
unfolding exp by_power
exp_next k = refl

-- the order of c
pub exp_whole : exp 127 ≡ 1
unfolding exp by_power by_c
exp_whole = refl

pub power_exp : (i p : ℕ) → power (exp i) p ≡ exp (i * p)
unfolding power
power_exp i zero = sym (ap exp (mul-zero i) ∙ exp_nought)
power_exp i (suc p) = ap (mul (exp i)) (power_exp i p) ∙ exp_add i (i * p) ∙ ap exp (add_comm i (i * p) ∙ sym (mul-suc i p))

-- (c^i)^p = (c^p)^i
pub power_swap : (i p : ℕ) → power (exp i) p ≡ power (exp p) i
power_swap i p = power_exp i p ∙ ap exp (mul_comm i p) ∙ sym (power_exp p i)

power_one : (k : ℕ) → power 1 k ≡ 1
unfolding power
power_one zero = refl
power_one (suc k) = one_mul (power 1 k) (power_small 1 k) ∙ power_one k

power_mod : (x k : ℕ) → power x k ≡ power (x % 128) k
unfolding power
power_mod x zero = refl
power_mod x (suc k) =
    mul_mod x (power x k) ∙ ap₂ mul (sym (mod-eq_of_lt (mod-lt x (lit< tt)))) (ap (λ (z : ℕ). z % 128) (power_mod x k))
    ∙ sym (mul_mod (x % 128) (power (x % 128) k))

-- x^127 = 1, so that x^126 inverts x
pub inverts : (x : ℕ) → 0 < x % 128 → mul x (inverse x) ≡ 1
unfolding inverse power
inverts x h =
    let l = logarithm (x % 128) h (mod-lt x (lit< tt)) in
    let k : ℕ = get_or logarithms (x % 128) 0 in
    whole x ∙ power_mod x 127 ∙ ap (λ (z : ℕ). power z 127) l.0 ∙ power_swap k 127 ∙ ap (λ (z : ℕ). power z k) exp_whole ∙ power_one k
  where
    whole : (x : ℕ) → mul x (power x 126) ≡ power x 127
    whole x = refl

pub field_laws : FieldLaws
field_laws =
    record {
      commutes = comm;
      associates = assoc;
      distributes = dist;
      one = one;
      closed = mul_small;
      inverts = inverts;
      primitive = primitive;
    }
  where
    primitive : (x : ℕ) → x < 128 → (x ≡ 0) ⊎ ((k : ℕ) × (k < 127) × (x ≡ exp k))
    primitive zero h = inl refl
    primitive (suc x) h = let l = logarithm (suc x) (omega arith) h in inr (get_or logarithms (suc x) 0, l.1, l.0)
