use Rattle.std.proofs.Common.{sym, ap, ◌∙◌, arith}
use Rattle.bch.specs.Codec.{decoded}
use Rattle.bch.proofs.Nearby.{finds}
use Rattle.bch.proofs.Answered.{undamaged, decoded_bits}
use Rattle.bch.proofs.decoder.decode.Goals as goal

pub returns-then-rest-eq0 : goal.returns-then-rest-eq0
returns-then-rest-eq0 c =
    let w = c.in-Some.word in
    record {
      is = decoded_bits w.bits _ w.are_bits (undamaged w.bits (omega arith) w.are_bits (sym c.remainder-rest.ensures ∙ c.if-rest-eq0.true))
          ∙ ap decoded c.in-Some.ensures;
      finds = λ h. finds c.args.received.now c.told-received h;
    }

pub returns-clause-finds : goal.returns-clause-finds
returns-clause-finds c = λ h. finds c.args.received.now c.told-received h
