use Rattle.std.proofs.Common.{ℕ, ◌≤◌, List}
use Rattle.coding.specs.Distance.{distance}
use Rattle.bch.specs.Nearest.{Near}
use Rattle.bch.proofs.decoder.Damaged.search.Given as goal

-- a codeword nearer than v has been ruled out
abbrev pub invariant-loop-v : goal.invariant-loop-v
invariant-loop-v l = (w : List ℕ) → Near l.self.word.bits w → l.v ≤ distance l.self.word.bits w
