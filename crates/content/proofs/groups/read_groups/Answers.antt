use Rattle.std.proofs.Common.{◌≡◌, ℕ, ◌+◌, ◌-◌, ◌*◌, ◌%◌, ◌^◌, ◌<◌, ◌≢◌, length, take, drop, sym, ap, ◌∙◌, arith, below_more}
use Rattle.std.proofs.lemmas.List.{ext_get_or, get_or-set_same, get_or-set_other}
use Rattle.coding.specs.Bits.{number, groups}
use Rattle.coding.proofs.Words.{bits_drop}
use Rattle.coding.proofs.Groups.{groups_place, length_groups, number_fits}
use Rattle.content.proofs.groups.read_groups.Goals as goal

pub loop-i-preserved : goal.loop-i-preserved
loop-i-preserved c =
    let w = c.args.width in
    let i = c.loop-i.i in
    let bs = c.args.bits.now in
    let n = length c.args.out.now in
    let lt : i < length c.loop-i.out = omega arith in
    let width : i * w + w - i * w ≡ w = omega arith in
    let low : number (take w (drop (i * w) bs)) % 2 ^ 32 ≡ number (take w (drop (i * w) bs)) = number_fits w (drop (i * w) bs) c.requires.1.0 (bits_drop (i * w) bs c.requires.1.1) in
    let read = c.read_bits.ensures ∙ ap (λ (m : ℕ). number (take m (drop (i * w) bs)) % 2 ^ 32) width ∙ low ∙ sym (groups_place w n bs i (omega arith)) in
    below_more _ i
    (λ k h. let ne : k ≢ i = omega arith in get_or-set_other c.loop-i.out i k c.read_bits.result 0 ne ∙ c.loop-i.invariant k h)
    (get_or-set_same c.loop-i.out i c.read_bits.result 0 lt ∙ read)

pub returns : goal.returns
returns c =
    let n = length c.args.out.now in
    let w = c.args.width in
    ext_get_or 0 c.loop-i.out (groups w n c.args.bits.now) (omega (arith, length_groups w n c.args.bits.now)) (λ k h. c.loop-i.invariant k (omega arith))
