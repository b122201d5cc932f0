use Rattle.std.proofs.Common.{◌≡◌, ℕ, ◌+◌, ◌<◌, get_or}
use Rattle.line.specs.Stages.{differential, running}
use Rattle.line_stages.proofs.differential.DifferentialLine.encode.Given as goal

abbrev pub ghost-check_word : goal.ghost-check_word
ghost-check_word a = differential

abbrev pub invariant-loop-i : goal.invariant-loop-i
invariant-loop-i l =
    (l.line_bit ≡ running l.word l.last l.i)
    × ((k : ℕ) → k < l.i + 1 → get_or l.out k 0 ≡ running l.word l.last k)
