-- Counting unlike chips: eight octets as one number, and a block as words of eight octets.
use Rattle.std.proofs.Common.{◌≡◌, ℕ, zero, suc, ◌+◌, ◌*◌, ◌/◌, ◌%◌, ◌^◌, ◌<◌, true, cond, eqb, List, [], ◌∷◌, ◌++◌, length, get_or, take, drop, sum_by, sym, refl, ap, ◌∙◌, subst, ap₂, mod-eq_of_lt, arith}
use lib.Bits.{bit_xor, xor_shr, xor_mod}
use lib.Count.{ones, ones_step}
use Rattle.std.specs.Simd.{first_chunks}
use Rattle.std.specs.List.{zip}
use Rattle.std.proofs.lemmas.List.{take-append-drop, length-take, length-drop}
use Rattle.std.proofs.lemmas.List.Sums.{sum_by-cons}
use Rattle.coding.specs.Bits.{are_bits, bits, number_after, number, group_bits}
use Rattle.coding.specs.Distance.{distance}
use Rattle.coding.proofs.Words.{length_bits, bits_none, bits_low}
use Rattle.coding.proofs.Numbers.{number_bits_after, number_below, bits_number}
use Rattle.coding.proofs.Groups.{length_group_bits, group_bits_bits, group_bits_append, group_bits_from, group_bits_end}
use Rattle.coding.proofs.Distances.{distance_none, distance_cons, distance_append}
use Rattle.chips.specs.Chips.{block, unlike}
use Rattle.chips.proofs.Blocks.{chips_zero, block_chips}

-- ---- the ones of a sum are the places where two numbers differ
low_bit : (x y : ℕ) → x < 2 → y < 2 → bit_xor x y ≡ cond (eqb x y) 0 1
low_bit zero zero h k = refl
low_bit zero (suc zero) h k = refl
low_bit (suc zero) zero h k = refl
low_bit (suc zero) (suc zero) h k = refl
low_bit (suc (suc x)) y h k = absurd (omega arith)
low_bit zero (suc (suc y)) h k = absurd (omega arith)
low_bit (suc zero) (suc (suc y)) h k = absurd (omega arith)

one_place : (a b : ℕ) → distance (a ∷ []) (b ∷ []) ≡ cond (eqb a b) 0 1
one_place a b = omega (arith, distance_cons a b [] [], distance_none [])

ones_none : ones (bit_xor 0 0) ≡ 0
unfolding ones
ones_none = refl

ones_distance : (n x y : ℕ) → x < 2 ^ n → y < 2 ^ n → ones (bit_xor x y) ≡ distance (bits n x) (bits n y)
ones_distance zero x y h k =
    let p : x ≡ 0 = omega arith in
    let q : y ≡ 0 = omega arith in
    ap₂ (λ (a b : ℕ). ones (bit_xor a b)) p q ∙ ones_none ∙ sym (ap₂ distance (bits_none x) (bits_none y) ∙ distance_none [])
ones_distance (suc n) x y h k =
    let low : bit_xor x y % 2 ≡ cond (eqb (x % 2) (y % 2)) 0 1 = xor_mod x y 1 ∙ low_bit (x % 2) (y % 2) (omega arith) (omega arith) in
    let high : ones (bit_xor x y / 2) ≡ distance (bits n (x / 2)) (bits n (y / 2)) =
    ap ones (xor_shr x y 1) ∙ ones_distance n (x / 2) (y / 2) (omega arith) (omega arith)
    in
    let whole : ones (bit_xor x y) ≡ bit_xor x y % 2 + ones (bit_xor x y / 2) = ones_step (bit_xor x y) in
    let parts : distance (bits (suc n) x) (bits (suc n) y)
    ≡ distance (bits n (x / 2)) (bits n (y / 2)) + distance (x % 2 ∷ []) (y % 2 ∷ []) =
    ap₂ distance (bits_low n x) (bits_low n y)
    ∙ distance_append (bits n (x / 2)) (x % 2 ∷ []) (bits n (y / 2)) (y % 2 ∷ []) (length_bits n (x / 2) ∙ sym (length_bits n (y / 2)))
    in
    omega (arith, one_place (x % 2) (y % 2))

-- the numbers that two words of bits write
ones_of_words : (n : ℕ) (u v : List ℕ) → length u ≡ n → length v ≡ n → are_bits u ≡ true → are_bits v ≡ true
    → ones (bit_xor (number u) (number v)) ≡ distance u v
ones_of_words n u v lu lv bu bv =
    ones_distance n (number u) (number v) (below u lu bu) (below v lv bv) ∙ ap₂ distance (bits_number u n lu bu) (bits_number v n lv bv)
  where
    below : (w : List ℕ) → length w ≡ n → are_bits w ≡ true → number w < 2 ^ n
    below w l b = subst (λ (k : ℕ). number w < 2 ^ k) l (number_below w b)

-- ---- eight octets as one number
number_append : (x : ℕ) (u v : List ℕ) → number_after x (u ++ v) ≡ number_after (number_after x u) v
unfolding number_after
number_append x [] v = refl
number_append x (b ∷ u) v = number_append (x * 2 + b) u v

number_ends : (x : ℕ) → number_after x [] ≡ x
unfolding number_after
number_ends x = refl

-- one octet more
number_octet : (x : ℕ) (os : List ℕ) (i : ℕ) → i < length os → get_or os i 0 < 256
    → number_after x (group_bits 8 (drop i os)) ≡ number_after (x * 256 + get_or os i 0) (group_bits 8 (drop (i + 1) os))
number_octet x os i h small =
    ap (number_after x) (group_bits_from 8 os i h)
    ∙ number_append x (bits 8 (get_or os i 0)) (group_bits 8 (drop (i + 1) os))
    ∙ ap (λ (n : ℕ). number_after n (group_bits 8 (drop (i + 1) os)))
    (number_bits_after 8 x (get_or os i 0) ∙ ap (λ (n : ℕ). x * 256 + n) (mod-eq_of_lt small))

abbrev big_endian : List ℕ → ℕ
big_endian a =
    get_or a 0 0 * 72057594037927936 + get_or a 1 0 * 281474976710656 + get_or a 2 0 * 1099511627776 + get_or a 3 0 * 4294967296
    + get_or a 4 0 * 16777216 + get_or a 5 0 * 65536 + get_or a 6 0 * 256 + get_or a 7 0

by_octets : (a b c d e f g h : ℕ)
    → ((((((((0 * 256 + a) * 256 + b) * 256 + c) * 256 + d) * 256 + e) * 256 + f) * 256 + g) * 256 + h)
    ≡ a * 72057594037927936 + b * 281474976710656 + c * 1099511627776 + d * 4294967296 + e * 16777216 + f * 65536 + g * 256 + h
by_octets a b c d e f g h = omega arith

number_of_octets : (os : List ℕ) → length os ≡ 8 → ((i : ℕ) → get_or os i 0 < 256) → number (group_bits 8 os) ≡ big_endian os
number_of_octets os l small =
    step 0 0 (omega arith) ∙ step _ 1 (omega arith) ∙ step _ 2 (omega arith) ∙ step _ 3 (omega arith)
    ∙ step _ 4 (omega arith) ∙ step _ 5 (omega arith) ∙ step _ 6 (omega arith) ∙ step _ 7 (omega arith)
    ∙ ap (number_after _) (group_bits_end 8 os 8 (omega arith)) ∙ number_ends _ ∙ by_octets _ _ _ _ _ _ _ _
  where
    step : (x i : ℕ) → i < 8
        → number_after x (group_bits 8 (drop i os)) ≡ number_after (x * 256 + get_or os i 0) (group_bits 8 (drop (i + 1) os))
    step x i h = number_octet x os i (omega arith) (small i)

-- the unlike bits of two words of eight octets
pub unlike_words : (a b : List ℕ) → length a ≡ 8 → length b ≡ 8 → ((i : ℕ) → get_or a i 0 < 256) → ((i : ℕ) → get_or b i 0 < 256)
    → ones (bit_xor (big_endian a) (big_endian b)) ≡ distance (group_bits 8 a) (group_bits 8 b)
unlike_words a b la lb sa sb =
    ap₂ (λ (x y : ℕ). ones (bit_xor x y)) (sym (number_of_octets a la sa)) (sym (number_of_octets b lb sb))
    ∙ ones_of_words 64 (group_bits 8 a) (group_bits 8 b) (long a la) (long b lb) (group_bits_bits 8 a) (group_bits_bits 8 b)
  where
    long : (os : List ℕ) → length os ≡ 8 → length (group_bits 8 os) ≡ 64
    long os l = length_group_bits 8 os ∙ ap (λ (n : ℕ). n * 8) l

-- ---- a block as words of eight octets
unlike_split : (n : ℕ) (xs ys : List ℕ) → length xs ≡ length ys
    → distance (group_bits 8 xs) (group_bits 8 ys)
    ≡ distance (group_bits 8 (take n xs)) (group_bits 8 (take n ys)) + distance (group_bits 8 (drop n xs)) (group_bits 8 (drop n ys))
unlike_split n xs ys e =
    ap₂ distance (parts xs) (parts ys)
    ∙ distance_append (group_bits 8 (take n xs)) (group_bits 8 (drop n xs)) (group_bits 8 (take n ys)) (group_bits 8 (drop n ys))
    (long xs ∙ ap (λ (k : ℕ). k * 8) (omega (arith, length-take n xs, length-take n ys)) ∙ sym (long ys))
  where
    parts : (os : List ℕ) → group_bits 8 os ≡ group_bits 8 (take n os) ++ group_bits 8 (drop n os)
    parts os = sym (ap (group_bits 8) (take-append-drop n os)) ∙ group_bits_append 8 (take n os) (drop n os)

    long : (os : List ℕ) → length (group_bits 8 (take n os)) ≡ length (take n os) * 8
    long os = length_group_bits 8 (take n os)

-- word by word
pub unlike_chunks : (k : ℕ) (xs ys : List ℕ) → length xs ≡ k * 8 → length ys ≡ k * 8
    → sum_by (λ p. distance (group_bits 8 p.0) (group_bits 8 p.1)) (zip (first_chunks 8 k xs) (first_chunks 8 k ys))
    ≡ distance (group_bits 8 xs) (group_bits 8 ys)
unlike_chunks zero xs ys lx ly =
    sym (ap₂ distance (group_bits_end 8 xs 0 (omega arith)) (group_bits_end 8 ys 0 (omega arith)) ∙ distance_none [])
unlike_chunks (suc k) xs ys lx ly =
    sum_by-cons (λ (p : List ℕ × List ℕ). distance (group_bits 8 p.0) (group_bits 8 p.1)) (take 8 xs, take 8 ys)
    (zip (first_chunks 8 k (drop 8 xs)) (first_chunks 8 k (drop 8 ys)))
    ∙ ap (λ (r : ℕ). distance (group_bits 8 (take 8 xs)) (group_bits 8 (take 8 ys)) + r)
    (unlike_chunks k (drop 8 xs) (drop 8 ys) (omega (arith, length-drop 8 xs)) (omega (arith, length-drop 8 ys)))
    ∙ sym (unlike_split 8 xs ys (lx ∙ sym ly))

-- the chips of the pattern are the bits of its octets
pub unlike_is : (x : List ℕ) → distance (group_bits 8 x) (group_bits 8 (block 0)) ≡ unlike x
unfolding unlike
unlike_is x = ap (distance (group_bits 8 x)) (block_chips 0 ∙ chips_zero)
