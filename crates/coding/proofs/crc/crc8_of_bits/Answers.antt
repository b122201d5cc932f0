use Rattle.std.proofs.Common.{◌≡◌, ℕ, ◌<◌, true, Some, None, sym, ap, ◌∙◌, subst, lit<}
use Rattle.std.proofs.lemmas.Bool.{cond-true}
use Rattle.coding.specs.Bits.{are_bits}
use Rattle.coding.specs.Polynomial.{OnlyRemainder}
use Rattle.coding.specs.Crc.{divisor, crc8}
use Rattle.coding.proofs.Quotient.{crc_only}
use Rattle.coding.proofs.crc.crc8_of_bits.Goals as goal

pub overflow_cast-result : goal.overflow_cast-result
overflow_cast-result c =
    let bit : are_bits c.args.bits.now ≡ true = sym c.if-not-are_bits.ensures in
    record { fits = subst (λ (z : ℕ). z < 256) (sym (c.remainder.ensures (lit< tt) bit)) (crc_only c.args.bits.now bit).remains.small }

pub returns : goal.returns
returns c =
    let w = c.args.bits.now in
    let bit : are_bits w ≡ true = sym c.if-not-are_bits.ensures in
    let e : c.remainder.result ≡ crc8 w = c.remainder.ensures (lit< tt) bit in
    record {
      is = ap Some e ∙ sym (cond-true (are_bits w) (Some (crc8 w)) None bit);
      only = λ p q. let s : crc8 w ≡ p = cc e in subst (OnlyRemainder 8 divisor 0xFF w) s (crc_only w bit);
    }
