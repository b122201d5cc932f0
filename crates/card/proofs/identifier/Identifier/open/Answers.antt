use Rattle.std.proofs.Common.{◌≡◌, ◌-◌, length, get_or, take, drop, ap, ◌∙◌, arith, rules}
use Rattle.std.proofs.lemmas.Slice.{between_to_end}
use Rattle.std.proofs.lemmas.Bool.Decides.{nat_tests}
use Rattle.coding.specs.Bits.{octet_bits}
use Rattle.coding.specs.Crc.{crc8}
use Rattle.card.proofs.identifier.Identifier.open.Goals as goal

pub returns : goal.returns
returns c =
    let s = c.args.octets.now in
    let r : c.in_ok-eight.eight ≡ take (length s - 1) (drop 1 s) = search rules in
    let d : c.in_ok-eight.eight ≡ drop 1 s = r ∙ between_to_end s 1 (length s) (omega arith) in
    let l : length s ≡ 9 = search rules in
    let e : get_or s 0 0 ≡ crc8 (octet_bits (drop 1 s)) = c.if-check-crc8.false ∙ c.crc8.ensures.is ∙ ap (λ z. crc8 (octet_bits z)) d in
    grind (arith, nat_tests, d, l, e, c.new.ensures, c.ok_or.ensures.value)
