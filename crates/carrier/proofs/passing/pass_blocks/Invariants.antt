use Rattle.std.proofs.Common.{◌≡◌, ◌≤◌}
use Rattle.sender.specs.Sending.{sending_of}
use Rattle.sender.specs.Takes.{after_calls}
use Rattle.carrier.specs.Receiving.{receiving_of}
use Rattle.carrier.specs.Passing.{Passed}
use Rattle.carrier.proofs.passing.pass_blocks.Given as goal

abbrev pub invariant-loop-i : goal.invariant-loop-i
invariant-loop-i g l =
    Passed (g.L.Line.model l.initial.reader.line) l._i (receiving_of l.initial.reader) l.tally.refused l.tally.closed
    (receiving_of l.reader)
    × (sending_of l.sender ≡ after_calls (g.L.Line.model l.initial.sender.line) l._i (sending_of l.initial.sender))
    × (l.reader.line ≡ l.initial.reader.line) × (l.sender.line ≡ l.initial.sender.line)
    × (l.tally.refused ≤ l._i) × (l.tally.closed ≤ l._i)
