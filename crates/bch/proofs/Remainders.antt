-- The remainder of a received word: zero exactly at codewords, and with the word's syndromes.
use Rattle.std.proofs.Common.{◌≡◌, ℕ, zero, suc, ◌^◌, ◌<◌, true, List, ◌++◌, length, take, drop, sym, ap, ◌∙◌, ap₂, arith, length-drop, take-append-drop, length-take, take_at, drop_at}
use lib.Bits.{bit_xor, xor_self}
use Rattle.coding.specs.Bits.{are_bits, bits, number}
use Rattle.coding.proofs.Words.{bits_take, bits_drop}
use Rattle.coding.proofs.Numbers.{bits_number, number_bits}
use Rattle.coding.proofs.Sums.{xor_same}
use Rattle.field.specs.Field.{exp, value}
use Rattle.field.specs.Code.{generator, parity, encode, Codeword}
use Rattle.field.specs.Locator.{syndrome}
use Rattle.field.proofs.Elements.{exp_small}
use Rattle.field.proofs.Roots.{generator_degree, generator_root, systematic_value, parity_remains}
use Rattle.bch.specs.Search.{leftover}

module _ (w : List ℕ) (l : length w ≡ 111) (b : are_bits w ≡ true) where
  front_length : length (take 69 w) ≡ 69
  front_length = simp length-take (omega arith)

  back_length : length (drop 69 w) ≡ 42
  back_length = simp length-drop (omega arith)

  -- no remainder: the parity that came is the one that the data ask for
  pub codeword_from : leftover w ≡ 0 → Codeword w
  unfolding encode
  codeword_from e =
      record {
        message = take 69 w;
        sixty_nine = front_length;
        bit = bits_take 69 w b;
        is = sym (take-append-drop 69 w)
            ∙ ap (λ (z : List ℕ). take 69 w ++ z)
            (sym (bits_number (drop 69 w) 42 back_length (bits_drop 69 w b))
            ∙ ap (bits 42) (sym (xor_same (parity (take 69 w)) (number (drop 69 w)) e)));
      }

  -- at c to c^12 the word has the value of its remainder
  pub syndrome_leftover : (k : ℕ) → 0 < k → k < 13 → value (exp k) (bits 42 (leftover w)) ≡ syndrome w k
  unfolding syndrome parity
  syndrome_leftover zero p h = absurd (omega arith)
  syndrome_leftover (suc k) p h =
      sym (ap (value (exp (suc k))) (sym (take-append-drop 69 w))
      ∙ systematic_value 42 generator (exp (suc k)) generator_degree.0 generator_degree.1 (generator_root k (omega arith))
      (take 69 w) (drop 69 w) (exp_small (suc k)) (bits_take 69 w b) (bits_drop 69 w b) back_length)

-- a codeword has the remainder zero
pub codeword_leftover : (w : List ℕ) → Codeword w → leftover w ≡ 0
unfolding encode
codeword_leftover w c =
    let d : List ℕ = c.message in
    let small : parity d < 2 ^ 42 = (parity_remains d c.bit).remains.small in
    ap₂ (λ (x y : List ℕ). bit_xor (parity x) (number y))
    (ap (take 69) c.is ∙ take_at d (bits 42 (parity d)) 69 c.sixty_nine)
    (ap (drop 69) c.is ∙ drop_at d (bits 42 (parity d)) 69 c.sixty_nine)
    ∙ ap (bit_xor (parity d)) (number_bits 42 (parity d) small)
    ∙ xor_self (parity d)
