use Rattle.std.proofs.Common.{ℕ, ◌^◌, ◌<◌, get_or, sym, ◌∙◌, subst, arith}
use Rattle.coding.proofs.Words.{bit_at}
use Rattle.coding.proofs.Division.{remainder_at, remainder_all}
use Rattle.coding.proofs.Quotient.{brought, reduced_small}
use Rattle.coding.proofs.remainders.remainder.Goals as goal

pub loop-bit-preserved : goal.loop-bit-preserved
loop-bit-preserved g c = λ hs hb.
    let n = g.D.Divisor.DEGREE in
    let t = g.D.Divisor.TERMS in
    let w = c.args.bits.now in
    let i = c.loop-bit.bit-index in
    let r = c.loop-bit.rest in
    let now = c.loop-bit.invariant hs hb in
    let bit : get_or w i 0 < 2 = bit_at w hb i in
    let e = c.after_bit-rest.ensures now.1 bit in (
      remainder_at n t r w i c.after_bit-rest.result (omega arith) e ∙ now.0,
      subst (λ (z : ℕ). z < 2 ^ n) (sym e) (reduced_small n t _ g.D.Divisor.high g.D.Divisor.low (brought n r (get_or w i 0) now.1 bit)),
    )

pub returns : goal.returns
returns g c = λ hs hb.
    sym (remainder_all g.D.Divisor.DEGREE g.D.Divisor.TERMS c.loop-bit.rest c.args.bits.now c.loop-bit.bit-index (omega arith))
    ∙ (c.loop-bit.invariant hs hb).0
