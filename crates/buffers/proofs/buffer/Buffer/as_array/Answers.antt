use Rattle.std.proofs.Common.{sym}
use Rattle.buffers.specs.Buffer.{text_of}
use Rattle.buffers.proofs.Padding.{padded-take}
use Rattle.buffers.proofs.buffer.Buffer.as_array.Goals as goal

pub returns : goal.returns
unfolding text_of
returns g c =
    let b = c.args.self.now in
    sym (padded-take g.row.N b.len b.room b.within b.full b.blank)
