use Rattle.std.proofs.Common.{◌≡◌, ◌<◌, ◌≢◌, length, sym, ◌∙◌, arith, below_more}
use Rattle.std.proofs.lemmas.List.{ext_get_or, get_or-set_same, get_or-set_other}
use Rattle.coding.specs.Bits.{bits}
use Rattle.coding.proofs.Words.{length_bits, bits_place}
use Rattle.coding.proofs.values.write_long.Goals as goal

pub loop-i-preserved : goal.loop-i-preserved
loop-i-preserved c =
    let n = length c.args.out.now in
    let i = c.loop-i.i in
    let lt : i < length c.loop-i.out = omega arith in
    below_more _ i
    (λ k h. let ne : k ≢ i = omega arith in get_or-set_other c.loop-i.out i k c.bit_of.result 0 ne ∙ c.loop-i.invariant k h)
    (get_or-set_same c.loop-i.out i c.bit_of.result 0 lt ∙ c.bit_of.ensures ∙ sym (bits_place n c.args.value i (omega arith)))

pub returns : goal.returns
returns c =
    let n = length c.args.out.now in
    let l : length c.loop-i.out ≡ n = omega arith in
    ext_get_or 0 c.loop-i.out (bits n c.args.value) (l ∙ sym (length_bits n c.args.value)) (λ k h. c.loop-i.invariant k (omega arith))
