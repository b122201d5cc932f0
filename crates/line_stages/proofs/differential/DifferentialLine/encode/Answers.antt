use Rattle.std.proofs.Common.{ℕ, ◌+◌, length, sym, ◌∙◌, arith, length-set}
use Rattle.std.proofs.lemmas.List.FromFn.{fill_by_all}
use Rattle.line.specs.Stages.{differential, running}
use Rattle.line.proofs.Answers.{encodes}
use Rattle.line.proofs.DifferentialRules.{running_bit}
use Rattle.line.proofs.Sums.{bit_at}
use Rattle.line_stages.proofs.differential.DifferentialLine.encode.Goals as goal

pub sum-line_bit-requires : goal.sum-line_bit-requires
sum-line_bit-requires c =
    let w = c.args.word.now in
    let e = encodes differential w c.args.last c.args.out.now c.in_ok-check_word.ensures in
    (rw c.loop-i.invariant.0 (running_bit w c.args.last e.last_bit c.loop-i.i), bit_at w e.are_bits c.loop-i.i)

pub returns-clause-output : goal.returns-clause-output
returns-clause-output c =
    let w = c.args.word.now in
    let e = encodes differential w c.args.last c.args.out.now c.in_ok-check_word.ensures in
    fill_by_all (running w c.args.last) c.loop-i.out (length w + 1) 0
    (omega (arith, length-set {A = ℕ})) (λ k h. c.loop-i.invariant.1 k (omega arith))
    ∙ sym e.output
