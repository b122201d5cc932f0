use Rattle.std.proofs.Common.{refl, arith}
use Rattle.std.proofs.lemmas.List.{take_more_set}
use Rattle.content.proofs.entry.Sequence.push.Goals as goal

pub returns : goal.returns
returns c = record {
  len = refl;
  entries = take_more_set c.args.self.now.entries c.args.self.now.len c.args.content (omega arith);
}
