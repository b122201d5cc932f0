-- What the encoder and the decoder answer.
use Rattle.std.specs.Prelude.{ℕ, cond, List, Some, None, Ok, Err, Option, Result}
use Rattle.coding.specs.Bits.{are_bits}
use Rattle.coding.specs.Distance.{distance}
use Rattle.field.specs.Code.{encode}
use Rattle.bch.specs.declared.word.CodeRefusal.{CodeRefusal}
use Rattle.bch.specs.declared.word.CodeRefusal.TheVariants.{NotBits, NoCodeword}
use Rattle.bch.specs.declared.word.Corrected.{Corrected}
use Rattle.bch.specs.Nearest.{nearest}

-- the codeword of 69 data bits
abbrev pub encoded : List ℕ → Result (List ℕ) CodeRefusal
encoded d = cond (are_bits d) (Ok (encode d)) (Err NotBits)

-- a codeword beside the number of places in which the received word differs from it
abbrev pub corrected : List ℕ → List ℕ → Corrected
corrected w c = record { codeword = c; places = distance w c }

-- what the decoder answers when the search found this
abbrev pub found : List ℕ → Option (List ℕ) → Result Corrected CodeRefusal
found w (Some c) = Ok (corrected w c)
found w None = Err NoCodeword

-- the codeword within six places of 111 received bits
abbrev pub decoded : List ℕ → Result Corrected CodeRefusal
decoded w = cond (are_bits w) (found w (nearest w)) (Err NotBits)
