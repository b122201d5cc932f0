-- Words of bits and the numbers that they write.
use Rattle.std.proofs.Common.{◌≡◌, ℕ, zero, suc, ◌+◌, ◌*◌, ◌/◌, ◌%◌, ◌^◌, ◌<◌, ◌≤◌, true, List, [], ◌∷◌, length, get_or, drop, sym, refl, ap, ◌∙◌, ap₂, add_assoc, mod-eq_of_lt, mul_assoc, mul_comm, add-mul, pow-suc, zero-add, one-add, arith, lit<}
use Rattle.std.proofs.lemmas.Nat.{mod-pow-add, shr_high}
use Rattle.std.proofs.lemmas.List.{at_drop_more, at_drop_all}
use Rattle.coding.specs.Bits.{are_bits, bits, number_after, number}
use Rattle.coding.proofs.Words.{bits_parts}

-- one more bit before n others
shifted : (x b n : ℕ) → (x * 2 + b) * 2 ^ n ≡ x * 2 ^ suc n + b * 2 ^ n
shifted x b n =
    add-mul (x * 2) b (2 ^ n)
    ∙ ap (λ (z : ℕ). z + b * 2 ^ n) (mul_assoc x 2 (2 ^ n) ∙ ap (λ (z : ℕ). x * z) (mul_comm 2 (2 ^ n) ∙ sym (pow-suc 2 n)))

-- the number that the bits of y write after x
pub number_bits_after : (n x y : ℕ) → number_after x (bits n y) ≡ x * 2 ^ n + y % 2 ^ n
unfolding bits number_after
number_bits_after zero x y = omega arith
number_bits_after (suc n) x y =
    let m : y % 2 ^ suc n ≡ y / 2 ^ n % 2 * 2 ^ n + y % 2 ^ n = ap (λ (k : ℕ). y % 2 ^ k) (sym (one-add n)) ∙ mod-pow-add y 1 n in
    number_bits_after n (x * 2 + y / 2 ^ n % 2) y
    ∙ ap (λ (z : ℕ). z + y % 2 ^ n) (shifted x (y / 2 ^ n % 2) n)
    ∙ add_assoc (x * 2 ^ suc n) (y / 2 ^ n % 2 * 2 ^ n) (y % 2 ^ n)
    ∙ ap (λ (z : ℕ). x * 2 ^ suc n + z) (sym m)

-- the bits of a number write it
pub number_bits : (n y : ℕ) → y < 2 ^ n → number (bits n y) ≡ y
number_bits n y h =
    let z : 0 * 2 ^ n ≡ 0 = omega arith in
    number_bits_after n 0 y ∙ ap₂ ◌+◌ z (mod-eq_of_lt h) ∙ omega arith

pub number_after_lem : (x : ℕ) (w : List ℕ) → number_after x w ≡ x * 2 ^ length w + number w
unfolding number_after
number_after_lem x [] = omega arith
number_after_lem x (b ∷ bs) =
    let n : ℕ = length bs in
    let e : number_after (0 * 2 + b) bs ≡ b * 2 ^ n + number bs =
    number_after_lem (0 * 2 + b) bs ∙ ap (λ (z : ℕ). z * 2 ^ n + number bs) (zero-add b)
    in
    number_after_lem (x * 2 + b) bs ∙ ap (λ (z : ℕ). z + number bs) (shifted x b n)
    ∙ add_assoc (x * 2 ^ suc n) (b * 2 ^ n) (number bs) ∙ ap (λ (z : ℕ). x * 2 ^ suc n + z) (sym e)

pub number_below : (w : List ℕ) → are_bits w ≡ true → number w < 2 ^ length w
unfolding number_after
number_below [] h = lit< tt
number_below (b ∷ bs) h =
    let p = bits_parts b bs h in
    let n : ℕ = length bs in
    let e : number_after (0 * 2 + b) bs ≡ b * 2 ^ n + number bs =
    number_after_lem (0 * 2 + b) bs ∙ ap (λ (z : ℕ). z * 2 ^ n + number bs) (zero-add b)
    in
    let s : 2 ^ suc n ≡ 2 ^ n * 2 = pow-suc 2 n in
    below b (2 ^ n) (number bs) (number (b ∷ bs)) (2 ^ suc n) e s p.0 (number_below bs p.1)
  where
    below : (b t r y s : ℕ) → y ≡ b * t + r → s ≡ t * 2 → b < 2 → r < t → y < s
    below zero t r y s e f hb h = omega arith
    below (suc zero) t r y s e f hb h = omega arith
    below (suc (suc b)) t r y s e f hb h = absurd (omega arith)

-- a word is the bits of its number
bits_number_after : (x : ℕ) (w : List ℕ) → are_bits w ≡ true → bits (length w) (number_after x w) ≡ w
unfolding bits number_after
bits_number_after x [] h = refl
bits_number_after x (b ∷ bs) h =
    let p = bits_parts b bs h in
    let n : ℕ = length bs in
    let e : number_after (x * 2 + b) bs / 2 ^ n ≡ x * 2 + b =
    ap (λ (z : ℕ). z / 2 ^ n) (number_after_lem (x * 2 + b) bs) ∙ shr_high (x * 2 + b) n (number bs) (number_below bs p.1)
    in
    let d : number_after (x * 2 + b) bs / 2 ^ n % 2 ≡ b = ap (λ (z : ℕ). z % 2) e ∙ low b p.0 in
    ap₂ (λ (y : ℕ) (ys : List ℕ). y ∷ ys) d (bits_number_after (x * 2 + b) bs p.1)
  where
    low : (b : ℕ) → b < 2 → (x * 2 + b) % 2 ≡ b
    low b h = omega arith

pub bits_number : (w : List ℕ) (n : ℕ) → length w ≡ n → are_bits w ≡ true → bits n (number w) ≡ w
bits_number w n e h = ap (λ (k : ℕ). bits k (number w)) (sym e) ∙ bits_number_after 0 w h
