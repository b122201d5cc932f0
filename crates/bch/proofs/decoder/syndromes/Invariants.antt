use Rattle.std.proofs.Common.{◌≡◌, ℕ, suc, ◌<◌, get_or}
use Rattle.coding.specs.Bits.{bits}
use Rattle.field.specs.Field.{exp, value}
use Rattle.bch.proofs.decoder.syndromes.Given as goal

-- the syndromes before the index are there
abbrev pub invariant-loop-syndrome : goal.invariant-loop-syndrome
invariant-loop-syndrome l =
    (l.x ≡ exp l.syndrome-index)
    × ((k : ℕ) → k < l.syndrome-index → get_or l.syndrome-items k 0 ≡ value (exp (suc k)) (bits 42 l.rest))
