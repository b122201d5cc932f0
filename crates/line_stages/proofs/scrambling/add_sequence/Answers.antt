use Rattle.std.proofs.Common.{◌≡◌, ◌+◌, length, get_or, ◌∙◌, ap₂, arith}
use Rattle.std.proofs.lemmas.Grind.{common_steps}
use Rattle.std.proofs.lemmas.List.FromFn.{fill_by_all}
use Rattle.coding.specs.Bits.{plus}
use Rattle.line.specs.Stages.{sequence}
use Rattle.line.proofs.Sums.{bit_at}
use Rattle.line.proofs.ScramblingRules.{window_next, window_step}
use Rattle.line_stages.proofs.scrambling.add_sequence.Goals as goal

pub sum-requires : goal.sum-requires
sum-requires c =
    let i = c.loop-bit.bit-index in
    (omega (arith, c.loop-bit.invariant.others i, bit_at c.args.bits.now c.requires i), omega (arith, c.next_bit.ensures.bit))

pub loop-bit-preserved : goal.loop-bit-preserved
loop-bit-preserved c =
    let i = c.loop-bit.bit-index in
    let register = c.loop-bit.sequence.register in
    let before = c.loop-bit.invariant in
    let next : c.next_bit.result ≡ sequence (i + 9) = c.next_bit.ensures.bit ∙ window_next i register before.register in
    let here : c.sum.result ≡ plus (get_or c.args.bits.now i 0) (sequence (i + 9)) =
    c.sum.ensures ∙ ap₂ plus (before.others i (omega arith)) next
    in
    record {
      register = c.next_bit.ensures.register ∙ window_step i c.next_bit.result register before.register next;
      added = λ k h. grind (arith, common_steps, here, before.added k);
      others = λ k h. grind (arith, common_steps, before.others k);
    }

pub returns : goal.returns
returns c =
    let old = c.args.bits.now in
    fill_by_all (λ k. plus (get_or old k 0) (sequence (k + 9))) c.loop-bit.bits (length old) 0 (omega arith)
    (λ k h. c.loop-bit.invariant.added k (omega arith))
