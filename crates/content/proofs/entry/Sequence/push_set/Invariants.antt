use Rattle.std.proofs.Common.{◌≡◌, ◌+◌, ◌++◌, take}
use Rattle.content.specs.Sequence.{numbered}
use Rattle.content.specs.Entries.{entries_of}
use Rattle.content.proofs.entry.Sequence.push_set.Given as goal

-- the words before i are entered
abbrev pub invariant-loop-i : goal.invariant-loop-i
invariant-loop-i l =
    (l.self.len ≡ l.initial.self.len + l.i) × (entries_of l.self ≡ entries_of l.initial.self ++ numbered l.first (take l.i l.words))
