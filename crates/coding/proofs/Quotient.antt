-- The law of division: what long division leaves is the one remainder.
use Rattle.std.proofs.Common.{◌≡◌, ℕ, zero, suc, ◌+◌, ◌*◌, ◌/◌, ◌%◌, ◌^◌, ◌<◌, ◌≤◌, true, List, [], ◌∷◌, length, sym, refl, ap, ◌∙◌, subst, ap₂, ⊎_elim, add-zero, add-suc, mul_assoc, mul_comm, add-mul, eq-zero-or-pos, suc-add, pow-suc, zero-add, arith, lit<, lit≤, pow_pos}
use native.Mathlib.Nat.{div-eq_of_lt}
use lib.Bits.{bit_xor, xor_lt, xor_zero_r, xor_shr, xor_mod, xor_shifted, xor_self}
use Rattle.std.proofs.lemmas.Bool.{cases_lt}
use Rattle.coding.specs.Bits.{are_bits, number_after, number}
use Rattle.coding.specs.Polynomial.{times, reduced, remainder, Remainder, OnlyRemainder, Division}
use Rattle.coding.specs.Crc.{divisor, crc8}
use Rattle.coding.proofs.Words.{bits_parts}
use Rattle.coding.proofs.Sums.{xor_swap, sums, xor_same, double_xor, bit_xor_times, high_xor}
use Rattle.coding.proofs.Division.{top_bit, tops_cancel, reduced_low, reduced_high}

-- ---- products
times_double : (n p q : ℕ) → times n (p * 2) q ≡ times n p q * 2
unfolding times
times_double zero p q = refl
times_double (suc n) p q =
    ap₂ bit_xor (sym (mul_assoc (q % 2) p 2)) (times_double n (p * 2) (q / 2)) ∙ sym (double_xor (q % 2 * p) (times n (p * 2) (q / 2)))

-- a product by a sum
times_xor : (n p q r : ℕ) → times n p (bit_xor q r) ≡ bit_xor (times n p q) (times n p r)
unfolding times
times_xor zero p q r = refl
times_xor (suc n) p q r =
    ap₂ bit_xor (ap (λ (z : ℕ). z * p) (xor_mod q r 1) ∙ bit_xor_times (q % 2) (r % 2) p (omega arith) (omega arith))
    (ap (times n (p * 2)) (xor_shr q r 1) ∙ times_xor n (p * 2) (q / 2) (r / 2))
    ∙ xor_swap (q % 2 * p) (r % 2 * p) (times n (p * 2) (q / 2)) (times n (p * 2) (r / 2))

-- one more coefficient of the second factor
times_more : (n p q t : ℕ) → t < 2 → times (suc n) p (q * 2 + t) ≡ bit_xor (t * p) (times n p q * 2)
unfolding times
times_more n p q t h =
    let e : (q * 2 + t) % 2 ≡ t = omega arith in
    let f : (q * 2 + t) / 2 ≡ q = omega arith in
    ap₂ (λ (x y : ℕ). bit_xor (x * p) (times n (p * 2) y)) e f ∙ ap (bit_xor (t * p)) (times_double n p q)

times_zero : (n p : ℕ) → times n p 0 ≡ 0
unfolding times
times_zero zero p = refl
times_zero (suc n) p =
    let z : 0 * p ≡ 0 = omega arith in
    ap (λ (x : ℕ). bit_xor x (times n (p * 2) 0)) z ∙ times_zero n (p * 2)

-- the degree of a product is at least that of either factor
times_high : (n m p q : ℕ) → 2 ^ m ≤ p → p < 2 ^ suc m → 0 < q → q < 2 ^ n → 2 ^ m ≤ times n p q
unfolding times
times_high zero m p q hp kp h k = absurd (omega arith)
times_high (suc n) m p q hp kp h k =
    let e : 2 ^ suc n ≡ 2 ^ n * 2 = pow-suc 2 n in
    let f : 2 ^ suc m ≡ 2 ^ m * 2 = pow-suc 2 m in
    let g : 2 ^ suc (suc m) ≡ 2 ^ suc m * 2 = pow-suc 2 (suc m) in
    ⊎_elim
    (λ z.
    let o : q % 2 ≡ 1 = omega arith in
    let one : 1 * p ≡ p = omega arith in
    subst (λ (v : ℕ). 2 ^ m ≤ v)
    (sym (ap₂ (λ (a b : ℕ). bit_xor (a * p) (times n (p * 2) b)) o z ∙ ap₂ bit_xor one (times_zero n (p * 2)) ∙ xor_zero_r p)) hp)
    (λ l.
    let a : 2 ^ suc m ≤ bit_xor (q % 2 * p) (times n (p * 2) (q / 2)) =
    high_xor (suc m) (times n (p * 2) (q / 2)) (q % 2 * p) (bit_below (q % 2) p (2 ^ suc m) (omega arith) kp)
    (times_high n (suc m) (p * 2) (q / 2) (omega arith) (omega arith) l (omega arith))
    in
    omega arith)
    (eq-zero-or-pos (q / 2))
  where
    bit_below : (b p k : ℕ) → b < 2 → p < k → b * p < k
    bit_below zero p k h l = omega arith
    bit_below (suc zero) p k h l = omega arith
    bit_below (suc (suc b)) p k h l = absurd (omega arith)

-- ---- one step of the division
-- a polynomial of degree n at most, less the divisor where it has the degree n
pub reduced_is : (n g p : ℕ) → p < 2 ^ suc n → reduced n g p ≡ bit_xor p (p / 2 ^ n * g)
reduced_is n g p h =
    ⊎_elim
    (λ l.
    let z : p / 2 ^ n * g ≡ 0 = ap (λ (t : ℕ). t * g) (div-eq_of_lt l) ∙ omega arith in
    sym (reduced_low n g p l) ∙ sym (ap (bit_xor p) z ∙ xor_zero_r p))
    (λ l.
    let o : p / 2 ^ n * g ≡ g = ap (λ (t : ℕ). t * g) (top_bit n p l h) ∙ omega arith in
    sym (reduced_high n g p l) ∙ sym (ap (bit_xor p) o))
    (cases_lt p (2 ^ n))

pub reduced_small : (n g p : ℕ) → 2 ^ n ≤ g → g < 2 ^ suc n → p < 2 ^ suc n → reduced n g p < 2 ^ n
reduced_small n g p lg hg h =
    ⊎_elim (λ l. subst (λ (z : ℕ). z < 2 ^ n) (reduced_low n g p l) l)
    (λ l. subst (λ (z : ℕ). z < 2 ^ n) (reduced_high n g p l) (tops_cancel n p g l h lg hg))
    (cases_lt p (2 ^ n))

-- what is to be reduced when a coefficient b is brought down
pub brought : (n r b : ℕ) → r < 2 ^ n → b < 2 → bit_xor (r * 2) (b * 2 ^ n) < 2 ^ suc n
brought n r b h hb =
    let e : 2 ^ suc n ≡ 2 ^ n * 2 = pow-suc 2 n in
    xor_lt (suc n) (r * 2) (b * 2 ^ n) (omega arith) (top b hb)
  where
    top : (b : ℕ) → b < 2 → b * 2 ^ n < 2 ^ suc n
    top zero h = omega (arith, pow-suc 2 n, pow_pos n)
    top (suc zero) h = omega (arith, pow-suc 2 n, pow_pos n)
    top (suc (suc b)) h = absurd (omega arith)

-- the digit of the quotient is a bit
pub top_below : (n p : ℕ) → p < 2 ^ suc n → p / 2 ^ n < 2
top_below n p h = ⊎_elim (λ l. omega (arith, div-eq_of_lt l)) (λ l. omega (arith, top_bit n p l h)) (cases_lt p (2 ^ n))

-- the coefficient in its place
placed : (n acc b : ℕ) → b < 2 → (acc * 2 + b) * 2 ^ n ≡ bit_xor (acc * 2 ^ n * 2) (b * 2 ^ n)
placed n acc b h =
    let k : acc * 2 * 2 ^ n ≡ acc * 2 ^ suc n =
    mul_assoc acc 2 (2 ^ n) ∙ ap (λ (z : ℕ). acc * z) (mul_comm 2 (2 ^ n) ∙ sym (pow-suc 2 n))
    in
    let l : acc * 2 ^ n * 2 ≡ acc * 2 ^ suc n = mul_assoc acc (2 ^ n) 2 ∙ ap (λ (z : ℕ). acc * z) (sym (pow-suc 2 n)) in
    add-mul (acc * 2) b (2 ^ n) ∙ ap (λ (z : ℕ). z + b * 2 ^ n) k
    ∙ sym (xor_shifted acc (suc n) (b * 2 ^ n) (low b h)) ∙ ap (λ (z : ℕ). bit_xor z (b * 2 ^ n)) (sym l)
  where
    low : (b : ℕ) → b < 2 → b * 2 ^ n < 2 ^ suc n
    low zero h = omega (arith, pow-suc 2 n, pow_pos n)
    low (suc zero) h = omega (arith, pow-suc 2 n, pow_pos n)
    low (suc (suc b)) h = absurd (omega arith)

module _ (n g r : ℕ) (lg : 2 ^ n ≤ g) (hg : g < 2 ^ suc n) where
  -- after m coefficients, which are those of acc, s is left beside a quotient
  record Divided (acc s m : ℕ) : Type 0 where
    small : s < 2 ^ n
    quotient : ℕ
    degree : quotient < 2 ^ m
    multiple : bit_xor (bit_xor (r * 2 ^ m) (acc * 2 ^ n)) s ≡ times m g quotient

  more : (acc s m b : ℕ) → b < 2 → Divided acc s m → Divided (acc * 2 + b) (reduced n g (bit_xor (s * 2) (b * 2 ^ n))) (suc m)
  more acc s m b hb d =
      let p : ℕ = bit_xor (s * 2) (b * 2 ^ n) in
      let hp : p < 2 ^ suc n = brought n s b d.small hb in
      let t : p / 2 ^ n < 2 = top_below n p hp in
      let e : 2 ^ suc m ≡ 2 ^ m * 2 = pow-suc 2 m in
      record {
        small = reduced_small n g p lg hg hp;
        quotient = d.quotient * 2 + p / 2 ^ n;
        degree = omega (arith, d.degree);
        multiple =
            ap₂ (λ (x y : ℕ). bit_xor x y)
            (ap₂ bit_xor (ap (λ (z : ℕ). r * z) e ∙ sym (mul_assoc r (2 ^ m) 2)) (placed n acc b hb)) (reduced_is n g p hp)
            ∙ sorted (r * 2 ^ m * 2) (acc * 2 ^ n * 2) (b * 2 ^ n) (s * 2) (p / 2 ^ n * g)
            ∙ ap (bit_xor (p / 2 ^ n * g))
            (ap (λ (z : ℕ). bit_xor z (s * 2)) (sym (double_xor (r * 2 ^ m) (acc * 2 ^ n)))
            ∙ sym (double_xor (bit_xor (r * 2 ^ m) (acc * 2 ^ n)) s) ∙ ap (λ (z : ℕ). z * 2) d.multiple)
            ∙ sym (times_more m g d.quotient (p / 2 ^ n) t);
      }
    where
      sorted : (a c b s t : ℕ) → bit_xor (bit_xor a (bit_xor c b)) (bit_xor (bit_xor s b) t) ≡ bit_xor t (bit_xor (bit_xor a c) s)
      sorted a c b s t = simp sums

  divided : (acc s m : ℕ) (d : List ℕ) → are_bits d ≡ true → Divided acc s m → Divided (number_after acc d) (remainder n g s d) (m + length d)
  unfolding number_after remainder
  divided acc s m [] hs h = subst (Divided acc s) (sym (add-zero m)) h
  divided acc s m (b ∷ bs) hs h =
      let k = bits_parts b bs hs in
      subst (Divided (number_after acc (b ∷ bs)) (remainder n g s (b ∷ bs))) (suc-add m (length bs) ∙ sym (add-suc m (length bs)))
      (divided (acc * 2 + b) (reduced n g (bit_xor (s * 2) (b * 2 ^ n))) (suc m) bs k.1 (more acc s m b k.0 h))

  start : r < 2 ^ n → Divided 0 r 0
  unfolding times
  start h =
      let z : 0 * 2 ^ n ≡ 0 = omega arith in
      let o : r * 1 ≡ r = omega arith in
      record {
        small = h;
        quotient = 0;
        degree = lit< tt;
        multiple = ap₂ (λ (x y : ℕ). bit_xor (bit_xor x y) r) o z ∙ ap (λ (x : ℕ). bit_xor x r) (xor_zero_r r) ∙ xor_self r;
      }

  remains : (d : List ℕ) → r < 2 ^ n → are_bits d ≡ true → Remainder n g r d (remainder n g r d)
  remains d h hs =
      let x = subst (Divided (number d) (remainder n g r d)) (zero-add (length d)) (divided 0 r 0 d hs (start h)) in
      record { small = x.small; quotient = x.quotient; degree = x.degree; multiple = x.multiple }

  -- a multiple of g of a degree below n is zero
  only_zero : (m q x : ℕ) → q < 2 ^ m → x < 2 ^ n → x ≡ times m g q → x ≡ 0
  only_zero m q x h k e =
      ⊎_elim (λ z. e ∙ ap (times m g) z ∙ times_zero m g)
      (λ l. let high : 2 ^ n ≤ times m g q = times_high m n g q lg hg l h in absurd (omega arith))
      (eq-zero-or-pos q)

  -- so two remainders, which differ by a multiple of g, are one
  unique : (d : List ℕ) (p q : ℕ) → Remainder n g r d p → Remainder n g r d q → q ≡ p
  unique d p q P Q =
      xor_same q p
      (only_zero (length d) (bit_xor Q.quotient P.quotient) (bit_xor q p)
      (xor_lt (length d) Q.quotient P.quotient Q.degree P.degree) (xor_lt n q p Q.small P.small)
      (paired (bit_xor (r * 2 ^ length d) (number d * 2 ^ n)) q p ∙ ap₂ bit_xor Q.multiple P.multiple
      ∙ sym (times_xor (length d) g Q.quotient P.quotient)))
    where
      paired : (a p q : ℕ) → bit_xor p q ≡ bit_xor (bit_xor a p) (bit_xor a q)
      paired a p q = simp sums

pub division : Division
division n g r d lg hg h hs =
    let R = remains n g r lg hg d h hs in
    record { remains = R; only = λ q Q. unique n g r lg hg d (remainder n g r d) q R Q }

pub crc_only : (d : List ℕ) → are_bits d ≡ true → OnlyRemainder 8 divisor 0xFF d (crc8 d)
crc_only d h = division 8 divisor 0xFF d (lit≤ tt) (lit< tt) (lit< tt) h
