-- Codewords, written and recognised.
use Rattle.std.proofs.Common.{◌≡◌, ℕ, zero, suc, ◌-◌, ◌<◌, ◌≤◌, true, List, ◌∷◌, ◌++◌, length, get_or, drop, set, sym, refl, ap, ◌∙◌, ap₂, arith, length-set, drop-cons, get_or-set_same, drop-set-lt, drop_at}
use Rattle.coding.specs.Bits.{are_bits, bits, number}
use Rattle.coding.specs.Polynomial.{times}
use Rattle.coding.proofs.Numbers.{number_bits}
use Rattle.field.specs.Code.{generator, parity, encode, Codeword}
use Rattle.field.proofs.Roots.{parity_remains}

-- the generator, computed
pub generator_is : generator ≡ 8464279204727
unfolding generator times
generator_is = refl

-- ---- a loop that writes a word from its end
pub down : (xs : List ℕ) (i : ℕ) → 0 < i → i ≤ length xs → drop (i - 1) xs ≡ get_or xs (i - 1) 0 ∷ drop i xs
down xs zero p h = absurd (omega arith)
down xs (suc j) p h =
    let f : suc j - 1 ≡ j = omega arith in
    ap (λ (m : ℕ). drop m xs) f ∙ drop-cons xs j 0 h ∙ ap (λ (m : ℕ). get_or xs m 0 ∷ drop (suc j) xs) (sym f)

pub down_set : (xs : List ℕ) (i y : ℕ) → 0 < i → i ≤ length xs → drop (i - 1) (set xs (i - 1) y) ≡ y ∷ drop i xs
down_set xs i y p h =
    down (set xs (i - 1) y) i p (omega (arith, length-set xs (i - 1) y))
    ∙ ap₂ (λ (a : ℕ) (r : List ℕ). a ∷ r) (get_or-set_same xs (i - 1) y 0 (omega arith)) (drop-set-lt i xs (i - 1) y (omega arith))

-- ---- the encoder
pub encoded_code : (d : List ℕ) → length d ≡ 69 → are_bits d ≡ true → Codeword (encode d)
encoded_code d l b = record { message = d; sixty_nine = l; bit = b; is = refl }

pub encode_is : (d w : List ℕ) (p : ℕ) → w ≡ d ++ bits 42 p → p ≡ parity d → w ≡ encode d
unfolding encode
encode_is d w p e f = e ∙ ap (λ (z : ℕ). d ++ bits 42 z) f

-- the last 42 bits read as a number are the parity
pub parity_read : (d w : List ℕ) → length d ≡ 69 → are_bits d ≡ true → w ≡ encode d → number (drop 69 w) ≡ parity d
unfolding encode
parity_read d w l b e =
    ap (λ (z : List ℕ). number (drop 69 z)) e ∙ ap number (drop_at d (bits 42 (parity d)) 69 l)
    ∙ number_bits 42 (parity d) (parity_remains d b).remains.small
