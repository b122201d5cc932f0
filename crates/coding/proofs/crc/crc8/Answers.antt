use Rattle.std.proofs.Common.{◌≡◌, ℕ, ◌+◌, get_or, drop, sym, ap, ◌∙◌, subst, arith}
use Rattle.coding.specs.Bits.{bits, octet_bits}
use Rattle.coding.specs.Polynomial.{remainder, OnlyRemainder}
use Rattle.coding.specs.Crc.{divisor, crc8}
use Rattle.coding.proofs.Words.{octet_bits_more, octet_bits_all, octets_bits}
use Rattle.coding.proofs.Division.{remainder_none, remainder_append}
use Rattle.coding.proofs.Quotient.{crc_only}
use Rattle.coding.proofs.crc.crc8.Goals as goal

pub loop-octet-preserved : goal.loop-octet-preserved
loop-octet-preserved c =
    let os = c.args.octets.now in
    let i = c.loop-octet.octet-index in
    let r = c.loop-octet.rest in (
      ap (λ (z : ℕ). remainder 8 divisor z (octet_bits (drop (i + 1) os))) c.after_octet-rest.ensures.is
          ∙ sym (remainder_append 8 divisor r (bits 8 (get_or os i 0)) (octet_bits (drop (i + 1) os)))
          ∙ ap (remainder 8 divisor r) (sym (octet_bits_more os i (omega arith)))
          ∙ c.loop-octet.invariant.0,
      c.after_octet-rest.ensures.small,
    )

pub returns : goal.returns
returns c =
    let os = c.args.octets.now in
    let r = c.loop-octet.rest in
    let e : r ≡ crc8 (octet_bits os) =
    sym (remainder_none 8 divisor r)
    ∙ ap (remainder 8 divisor r) (sym (octet_bits_all os c.loop-octet.octet-index (omega arith)))
    ∙ c.loop-octet.invariant.0
    in
    record { is = e; only = subst (OnlyRemainder 8 divisor 0xFF (octet_bits os)) (sym e) (crc_only (octet_bits os) (octets_bits os)) }
