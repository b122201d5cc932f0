-- Bits of numbers and of octets.
use Rattle.std.proofs.Common.{◌≡◌, ℕ, zero, suc, ◌+◌, ◌-◌, ◌/◌, ◌%◌, ◌^◌, ◌<◌, ◌≤◌, true, ltb, List, [], ◌∷◌, ◌++◌, length, get_or, take, drop, set, sym, refl, ap, ◌∙◌, ap₂, one-add, arith, lit<}
use Rattle.std.proofs.lemmas.Nat.{shr-shr}
use Rattle.std.proofs.lemmas.List.{at_drop_more, at_drop_all}
use Rattle.std.proofs.lemmas.Bool.{and_parts, and_from, ltb-true, lt-ltb}
use Rattle.coding.specs.Bits.{are_bits, bits, octet_bits}

-- no bits, and the highest of n + 1 bits first
pub bits_none : (x : ℕ) → bits 0 x ≡ []
unfolding bits
bits_none x = refl

-- the octets from the place i on begin with the bits of the octet there
pub octet_bits_more : (os : List ℕ) (i : ℕ) → i < length os → octet_bits (drop i os) ≡ bits 8 (get_or os i 0) ++ octet_bits (drop (i + 1) os)
unfolding octet_bits
octet_bits_more os i h = at_drop_more octet_bits os i 0 h

pub octet_bits_all : (os : List ℕ) (i : ℕ) → length os ≤ i → octet_bits (drop i os) ≡ []
unfolding octet_bits
octet_bits_all os i h = at_drop_all octet_bits os i h

-- ---- words of bits
pub bits_parts : (b : ℕ) (bs : List ℕ) → are_bits (b ∷ bs) ≡ true → (b < 2) × (are_bits bs ≡ true)
bits_parts b bs h = let p = and_parts (ltb b 2) (are_bits bs) h in (ltb-true b 2 p.0, p.1)

pub bits_join : (b : ℕ) (bs : List ℕ) → b < 2 → are_bits bs ≡ true → are_bits (b ∷ bs) ≡ true
bits_join b bs h hs = and_from (ltb b 2) (are_bits bs) (lt-ltb b 2 h) hs

-- place by place, and back
pub bit_at : (w : List ℕ) → are_bits w ≡ true → (i : ℕ) → get_or w i 0 < 2
bit_at [] h i = lit< tt
bit_at (b ∷ bs) h zero = (bits_parts b bs h).0
bit_at (b ∷ bs) h (suc i) = bit_at bs (bits_parts b bs h).1 i

pub bits_at : (w : List ℕ) → ((i : ℕ) → get_or w i 0 < 2) → are_bits w ≡ true
bits_at [] h = refl
bits_at (b ∷ bs) h = bits_join b bs (h 0) (bits_at bs (λ i. h (suc i)))

pub bits_append : (xs ys : List ℕ) → are_bits xs ≡ true → are_bits ys ≡ true → are_bits (xs ++ ys) ≡ true
bits_append [] ys h g = g
bits_append (x ∷ xs) ys h g = let p = bits_parts x xs h in bits_join x (xs ++ ys) p.0 (bits_append xs ys p.1 g)

pub bits_take : (n : ℕ) (xs : List ℕ) → are_bits xs ≡ true → are_bits (take n xs) ≡ true
bits_take zero xs h = refl
bits_take (suc n) [] h = refl
bits_take (suc n) (x ∷ xs) h = let p = bits_parts x xs h in bits_join x (take n xs) p.0 (bits_take n xs p.1)

pub bits_set : (xs : List ℕ) (i y : ℕ) → are_bits xs ≡ true → y < 2 → are_bits (set xs i y) ≡ true
bits_set [] i y h hy = h
bits_set (x ∷ xs) zero y h hy = bits_join y xs hy (bits_parts x xs h).1
bits_set (x ∷ xs) (suc i) y h hy = let p = bits_parts x xs h in bits_join x (set xs i y) p.0 (bits_set xs i y p.1 hy)

-- the bits of a number are bits, and as many as are asked for
pub bits_bits : (n x : ℕ) → are_bits (bits n x) ≡ true
unfolding bits
bits_bits zero x = refl
bits_bits (suc n) x = bits_join (x / 2 ^ n % 2) (bits n x) (omega arith) (bits_bits n x)

pub octets_bits : (os : List ℕ) → are_bits (octet_bits os) ≡ true
unfolding octet_bits
octets_bits [] = refl
octets_bits (o ∷ os) = bits_append (bits 8 o) (octet_bits os) (bits_bits 8 o) (octets_bits os)

pub length_bits : (n x : ℕ) → length (bits n x) ≡ n
unfolding bits
length_bits zero x = refl
length_bits (suc n) x = ap suc (length_bits n x)

-- the bits of a number by its lowest bit
pub bits_low : (n x : ℕ) → bits (suc n) x ≡ bits n (x / 2) ++ (x % 2 ∷ [])
unfolding bits
bits_low zero x = let e : x / 1 % 2 ≡ x % 2 = omega arith in ap (λ (b : ℕ). b ∷ []) e
bits_low (suc n) x =
    let e : x / 2 / 2 ^ n ≡ x / 2 ^ suc n = shr-shr x 1 n ∙ ap (λ (k : ℕ). x / 2 ^ k) (one-add n) in
    ap₂ (λ (b : ℕ) (bs : List ℕ). b ∷ bs) (ap (λ (z : ℕ). z % 2) (sym e)) (bits_low n x)

pub bits_drop : (n : ℕ) (xs : List ℕ) → are_bits xs ≡ true → are_bits (drop n xs) ≡ true
bits_drop zero xs h = h
bits_drop (suc n) [] h = refl
bits_drop (suc n) (x ∷ xs) h = bits_drop n xs (bits_parts x xs h).1

-- the bit at a place, counted from 0
pub bits_place : (n x k : ℕ) → k < n → get_or (bits n x) k 0 ≡ x / 2 ^ (n - 1 - k) % 2
unfolding bits
bits_place zero x k h = absurd (omega arith)
bits_place (suc n) x zero h = ap (λ (m : ℕ). x / 2 ^ m % 2) (omega arith)
bits_place (suc n) x (suc k) h = bits_place n x k (omega arith) ∙ ap (λ (m : ℕ). x / 2 ^ m % 2) (omega arith)
