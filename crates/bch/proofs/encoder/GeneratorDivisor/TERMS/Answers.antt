use Rattle.std.proofs.Common.{sym}
use Rattle.bch.proofs.Codewords.{generator_is}
use Rattle.bch.proofs.encoder.GeneratorDivisor.TERMS.Goals as goal

pub returns : goal.returns
returns c = sym generator_is
