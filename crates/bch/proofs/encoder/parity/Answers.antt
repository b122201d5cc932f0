use Rattle.std.proofs.Common.{lit<}
use Rattle.field.specs.Code.{parity}
use Rattle.bch.proofs.encoder.parity.Goals as goal

pub returns : goal.returns
unfolding parity
returns c = c.remainder.ensures (lit< tt) c.requires
