use Rattle.std.proofs.Common.{arith, rules}
use Rattle.buffers.proofs.Extending.{front, behind}
use Rattle.buffers.specs.Buffer.{text_of}
use Rattle.buffers.proofs.buffer.Buffer.extend.Goals as goal

pub invariant_of-self-clause-blank : goal.invariant_of-self-clause-blank
invariant_of-self-clause-blank g c =
    let b = c.args.self.now in
    behind g.row.N b.len c.min-end.result b.room c.args.octets.now c.copy_from_slice.new.self
    b.within b.full (omega (arith, b.full)) (search rules) b.blank

pub returns : goal.returns
unfolding text_of
returns g c =
    let b = c.args.self.now in
    front g.row.N b.len c.min-end.result b.room c.args.octets.now c.copy_from_slice.new.self b.within b.full (omega (arith, b.full)) (search rules)
