use Rattle.std.proofs.Common.{◌≡◌, ◌+◌, ◌*◌, ◌/◌, length, arith}
use Rattle.std.proofs.lemmas.List.FromFn.{fill_by_all}
use Rattle.line.specs.Stages.{repetition, voted}
use Rattle.line.proofs.Answers.{decodes}
use Rattle.line.proofs.Sums.{bit_at}
use Rattle.line_stages.proofs.repetition.RepetitionLine.decode.Goals as goal

pub majority-requires : goal.majority-requires
majority-requires c =
    let x = c.args.bits.now in
    let n = length c.args.out.now in
    let i = c.loop-i.i in
    let bit = bit_at x (decodes repetition x c.args.out.now c.in_ok-check_bits.ensures).are_bits in
    (bit i, (bit (n + i), (bit (2 * n + i), bit (3 * n + i))))

pub returns-clause-output : goal.returns-clause-output
returns-clause-output c =
    let x = c.args.bits.now in
    let n = length c.args.out.now in
    let d = decodes repetition x c.args.out.now c.in_ok-check_bits.ensures in
    let quarter : length x / 4 ≡ n = omega (arith, d.room) in
    rw (d.output, quarter) (fill_by_all (voted x n) c.loop-i.out n 0 (omega arith) (λ k h. c.loop-i.invariant k (omega arith)))
