use Rattle.std.proofs.Common.{◌≡◌, ℕ, ◌<◌, get_or}
use Rattle.line.specs.Stages.{repetition, voted}
use Rattle.line_stages.proofs.repetition.RepetitionLine.decode.Given as goal

abbrev pub ghost-check_bits : goal.ghost-check_bits
ghost-check_bits a = repetition

abbrev pub invariant-loop-i : goal.invariant-loop-i
invariant-loop-i l = (k : ℕ) → k < l.i → get_or l.out k 0 ≡ voted l.bits l.n k
