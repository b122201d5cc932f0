use Rattle.std.proofs.Common.{◌≡◌, ℕ, ◌<◌, true, sym, ap, ◌∙◌, subst, lit<, lit≤}
use Rattle.coding.specs.Bits.{bits, are_bits}
use Rattle.coding.specs.Polynomial.{remainder}
use Rattle.coding.specs.Crc.{divisor}
use Rattle.coding.proofs.Words.{bits_bits}
use Rattle.coding.proofs.Quotient.{division}
use Rattle.coding.proofs.crc.after_octet.Goals as goal

pub returns : goal.returns
returns c =
    let r = c.args.rest in
    let w : c.write_bits.new.out ≡ bits 8 c.args.octet = c.write_bits.ensures ∙ ap (bits 8) c.from.ensures in
    let b : are_bits c.write_bits.new.out ≡ true = ap are_bits w ∙ bits_bits 8 c.args.octet in
    let e : c.remainder.result ≡ remainder 8 divisor r (bits 8 c.args.octet) = c.remainder.ensures c.requires b ∙ ap (remainder 8 divisor r) w in
    record {
      is = e;
      small = subst (λ (z : ℕ). z < 256) (sym e)
          (division 8 divisor r (bits 8 c.args.octet) (lit≤ tt) (lit< tt) c.requires (bits_bits 8 c.args.octet)).remains.small;
    }
