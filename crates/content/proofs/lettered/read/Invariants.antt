use Rattle.buffers.specs.Buffer.{text_of}
use Rattle.content.proofs.LaidOut.{Read}
use Rattle.content.proofs.lettered.read.Given as goal

-- the groups before the index are read
abbrev pub invariant-loop-group : goal.invariant-loop-group
invariant-loop-group g l = Read g.T.Lettered.lettering.character g.T.Lettered.PADDING l.groups l.group-index (text_of l.characters)
