use Rattle.std.proofs.Common.{◌≡◌}
use Rattle.content.proofs.LaidOut.{laid}
use Rattle.content.proofs.lettered.laid_out.Given as goal

-- the groups before i are laid out
abbrev pub invariant-loop-i : goal.invariant-loop-i
invariant-loop-i g l = l.groups ≡ laid g.T.Lettered.lettering.code g.row.ROOM g.T.Lettered.PADDING l.characters l.i
