use Rattle.std.proofs.Common.{◌≡◌, ℕ, suc, ◌<◌, List, ◌∷◌, length, get_or, sym, ap, ◌∙◌, ap₂, arith, add-one}
use lib.Bits.{bit_xor, xor_comm, xor_zero_r}
use Rattle.coding.specs.Bits.{bits}
use Rattle.field.specs.Field.{exp, value, power, by_c}
use Rattle.field.proofs.Elements.{zero_l, exp_next}
use Rattle.coding.proofs.Words.{bit_at, bits_bits}
use Rattle.bch.proofs.Systems.{set_below, power_first}
use Rattle.bch.proofs.decoder.syndromes.Goals as goal

-- a coefficient of zero before the others
zero_first : (x : ℕ) (w : List ℕ) → value x (0 ∷ w) ≡ value x w
unfolding value
zero_first x w = ap (λ (z : ℕ). bit_xor z (value x w)) (zero_l (power x (length w))) ∙ xor_comm 0 (value x w) ∙ xor_zero_r (value x w)

pub loop-syndrome-init : goal.loop-syndrome-init
loop-syndrome-init c = (power_first, λ k h. absurd (omega arith))

pub value_at-requires-clause-others : goal.value_at-requires-clause-others
value_at-requires-clause-others c = λ k.
    let bit : get_or (bits 42 c.args.rest) k 0 < 2 = bit_at (bits 42 c.args.rest) (bits_bits 42 c.args.rest) k in
    omega (arith, ap (λ (w : List ℕ). get_or w k 0) c.write_long.ensures)

pub loop-syndrome-preserved : goal.loop-syndrome-preserved
loop-syndrome-preserved c =
    let i = c.loop-syndrome.syndrome-index in
    let x : c.times_c-x.result ≡ exp (suc i) = c.times_c-x.ensures.is ∙ ap by_c c.loop-syndrome.invariant.0 ∙ exp_next i in (
      x ∙ ap exp (sym (add-one i)),
      set_below 0 (λ k y. y ≡ value (exp (suc k)) (bits 42 c.args.rest)) c.loop-syndrome.syndrome-items i c.value_at.result (omega arith)
          c.loop-syndrome.invariant.1
          (c.value_at.ensures ∙ zero_first c.times_c-x.result c.write_long.new.out ∙ ap₂ value x c.write_long.ensures),
    )
