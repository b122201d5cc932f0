use Rattle.std.proofs.Common.{◌≡◌, ℕ, ◌%◌, ◌^◌, ◌<◌, List, length, take, drop, ap, ◌∙◌, ap₂, subst, arith, mod-eq_of_lt, length-drop, take_all}
use lib.Bits.{bit_xor}
use Rattle.coding.specs.Bits.{number}
use Rattle.coding.proofs.Words.{bits_take, bits_drop}
use Rattle.coding.proofs.Numbers.{number_below}
use Rattle.bch.proofs.decoder.Word.remainder.Goals as goal

pub parity-requires : goal.parity-requires
parity-requires c = bits_take 69 c.args.self.now.bits c.args.self.now.are_bits

pub returns : goal.returns
returns c =
    let w = c.args.self.now.bits in
    let long : length (drop 69 w) ≡ 42 = simp length-drop (omega arith) in
    let back : number (drop 69 w) < 2 ^ 42 =
    subst (λ (n : ℕ). number (drop 69 w) < 2 ^ n) long (number_below (drop 69 w) (bits_drop 69 w c.args.self.now.are_bits))
    in
    let all : take 42 (drop 69 w) ≡ drop 69 w = take_all 42 (drop 69 w) (simp length-drop (omega arith)) in
    ap₂ bit_xor c.parity.ensures (c.read_long.ensures ∙ ap (λ (z : List ℕ). number z % 2 ^ 64) all ∙ mod-eq_of_lt (omega arith))
