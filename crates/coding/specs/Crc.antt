-- CRC-8: the remainder by x^8 + x^7 + x^6 + x^4 + x^2 + 1, the register at 0xFF before the first bit.
use Rattle.std.specs.Prelude.{ℕ, List}
use Rattle.coding.specs.Polynomial.{remainder}

abbrev pub divisor : ℕ
divisor = 0b1_1101_0101

abbrev pub crc8 : List ℕ → ℕ
crc8 bits = remainder 8 divisor 0xFF bits
