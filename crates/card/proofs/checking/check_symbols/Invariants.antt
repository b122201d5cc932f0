use Rattle.std.proofs.Common.{◌≤◌}
use Rattle.std.specs.List.{prefix_len}
use Rattle.card.specs.Fields.{is_symbol}
use Rattle.card.proofs.checking.check_symbols.Given as goal

abbrev pub invariant-loop-index : goal.invariant-loop-index
invariant-loop-index l = l.index ≤ prefix_len is_symbol l.symbols
