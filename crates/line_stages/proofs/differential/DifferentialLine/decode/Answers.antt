use Rattle.std.proofs.Common.{◌+◌, ◌-◌, length, get_or, sym, ◌∙◌, arith}
use Rattle.std.proofs.lemmas.List.FromFn.{fill_by_all}
use Rattle.coding.specs.Bits.{plus}
use Rattle.line.specs.Stages.{differential}
use Rattle.line.proofs.Answers.{decodes}
use Rattle.line.proofs.Sums.{bit_at}
use Rattle.line_stages.proofs.differential.DifferentialLine.decode.Goals as goal

pub sum-requires : goal.sum-requires
sum-requires c =
    let x = c.args.bits.now in
    let d = decodes differential x c.args.out.now c.in_ok-check_bits.ensures in
    (bit_at x d.are_bits c.loop-i.i, bit_at x d.are_bits (c.loop-i.i + 1))

pub returns-clause-output : goal.returns-clause-output
returns-clause-output c =
    let x = c.args.bits.now in
    let d = decodes differential x c.args.out.now c.in_ok-check_bits.ensures in
    fill_by_all (λ i. plus (get_or x i 0) (get_or x (i + 1) 0)) c.loop-i.out (length x - 1) 0 (omega arith)
    (λ k h. c.loop-i.invariant k (omega arith))
    ∙ sym d.output
