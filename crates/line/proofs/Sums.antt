-- Sums over places, the distance of two words as such a sum, and words of bits made from a function of the place.
use Rattle.std.proofs.Common.{◌≡◌, ℕ, zero, suc, ◌+◌, ◌*◌, ◌<◌, ◌≤◌, true, cond, eqb, ltb, List, [], ◌∷◌, ◌++◌, length, get_or, set, refl, ap, suc-add, zero-add, arith}
use Rattle.std.proofs.lemmas.Bool.{ltb-true, and_parts, and_from, lt-ltb}
use Rattle.std.proofs.lemmas.Bool.Decides.{nat_tests}
use Rattle.std.proofs.lemmas.List.FromFn.{length-map-range_with_len, get_or-map-range_with_len}
use Rattle.coding.specs.Bits.{are_bits, plus}
use Rattle.coding.specs.Distance.{distance}
use Rattle.line.specs.Stages.{listed}

-- 1 where two bits differ
abbrev pub apart : ℕ → ℕ → ℕ
apart a b = cond (eqb a b) 0 1

-- f 0 + f 1 + .. + f (n - 1)
abbrev pub total : (ℕ → ℕ) → ℕ → ℕ
total f zero = 0
total f (suc n) = f 0 + total (λ i. f (suc i)) n

pub total_le : (f g : ℕ → ℕ) (n : ℕ) → ((i : ℕ) → i < n → f i ≤ g i) → total f n ≤ total g n
total_le f g zero h = omega arith
total_le f g (suc n) h =
    let rest : total (λ i. f (suc i)) n ≤ total (λ i. g (suc i)) n = total_le _ _ n (λ i l. h (suc i) (omega arith)) in
    let first : f 0 ≤ g 0 = h 0 (omega arith) in
    omega arith

pub total_plus : (f g : ℕ → ℕ) (n : ℕ) → total (λ i. f i + g i) n ≡ total f n + total g n
total_plus f g zero = refl
total_plus f g (suc n) = omega (arith, total_plus (λ i. f (suc i)) (λ i. g (suc i)) n)

pub total_double : (f : ℕ → ℕ) (n : ℕ) → total (λ i. 2 * f i) n ≡ 2 * total f n
total_double f zero = refl
total_double f (suc n) = omega (arith, total_double (λ i. f (suc i)) n)

pub total_join : (f : ℕ → ℕ) (a b : ℕ) → total f (a + b) ≡ total f a + total (λ i. f (a + i)) b
total_join f zero b = simp zero-add
total_join f (suc a) b = simp suc-add (omega (arith, total_join (λ i. f (suc i)) a b))

-- the distance of words of one length
pub distance_total : (xs ys : List ℕ) → length xs ≡ length ys →
    distance xs ys ≡ total (λ i. apart (get_or xs i 0) (get_or ys i 0)) (length ys)
unfolding distance
distance_total [] [] l = refl
distance_total [] (y ∷ ys) l = absurd (omega arith)
distance_total (x ∷ xs) [] l = absurd (omega arith)
distance_total (x ∷ xs) (y ∷ ys) l = ap (λ (d : ℕ). apart x y + d) (distance_total xs ys (omega arith))

-- each place of a word of bits has a bit
pub bit_at : (xs : List ℕ) → are_bits xs ≡ true → (i : ℕ) → get_or xs i 0 < 2
bit_at [] h i = omega arith
bit_at (x ∷ xs) h zero = ltb-true x 2 (and_parts (ltb x 2) (are_bits xs) h).0
bit_at (x ∷ xs) h (suc i) = bit_at xs (and_parts (ltb x 2) (are_bits xs) h).1 i

pub bits_from : (xs : List ℕ) → ((i : ℕ) → i < length xs → get_or xs i 0 < 2) → are_bits xs ≡ true
bits_from [] h = refl
bits_from (x ∷ xs) h =
    and_from (ltb x 2) (are_bits xs) (lt-ltb x 2 (h 0 (omega arith))) (bits_from xs (λ i l. h (suc i) (omega arith)))

pub bits_append : (xs ys : List ℕ) → are_bits xs ≡ true → are_bits ys ≡ true → are_bits (xs ++ ys) ≡ true
bits_append [] ys h k = k
bits_append (x ∷ xs) ys h k =
    let p = and_parts (ltb x 2) (are_bits xs) h in
    and_from (ltb x 2) (are_bits (xs ++ ys)) p.0 (bits_append xs ys p.1 k)

pub bits_set : (xs : List ℕ) (i v : ℕ) → are_bits xs ≡ true → v < 2 → are_bits (set xs i v) ≡ true
bits_set [] i v h k = refl
bits_set (x ∷ xs) zero v h k = and_from (ltb v 2) (are_bits xs) (lt-ltb v 2 k) (and_parts (ltb x 2) (are_bits xs) h).1
bits_set (x ∷ xs) (suc i) v h k =
    let p = and_parts (ltb x 2) (are_bits xs) h in
    and_from (ltb x 2) (are_bits (set xs i v)) p.0 (bits_set xs i v p.1 k)

-- a word made from a function of the place
pub length_listed : (f : ℕ → ℕ) (n : ℕ) → length (listed f n) ≡ n
length_listed f n = length-map-range_with_len f 0 n

pub get_d_listed : (f : ℕ → ℕ) (n i : ℕ) → i < n → get_or (listed f n) i 0 ≡ f i
get_d_listed f n i h = get_or-map-range_with_len f 0 n i i 0 h (omega arith)

pub bits_listed : (f : ℕ → ℕ) (n : ℕ) → ((i : ℕ) → i < n → f i < 2) → are_bits (listed f n) ≡ true
bits_listed f n h =
    bits_from (listed f n) (λ i l.
    let k : i < n = omega (arith, length_listed f n) in
    rw (get_d_listed f n i k) (h i k))

-- sums of bits are bits, and differ in at most as many places as the bits do
pub plus_bit : (a b : ℕ) → plus a b < 2
plus_bit a b = omega arith

pub plus_apart : (a b c d : ℕ) → a < 2 → b < 2 → c < 2 → d < 2 → apart (plus a b) (plus c d) ≤ apart a c + apart b d
plus_apart a b c d ha hb hc hd = grind (arith, nat_tests)
