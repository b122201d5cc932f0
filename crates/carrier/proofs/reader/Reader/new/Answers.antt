use Rattle.std.proofs.Common.{[], Ok, ap, ◌∙◌}
use Rattle.round.specs.Rounds.{fresh}
use Rattle.carrier.specs.Receiving.{receiving_of}
use Rattle.carrier.proofs.Blocks.{same}
use Rattle.carrier.proofs.Starting.{refused_line, made, some_bit, room}
use Rattle.carrier.proofs.reader.Reader.new.Goals as goal

pub returns-in_default : goal.returns-in_default
returns-in_default g c = record { receiving = refused_line (g.L.Line.model c.args.line) c.in_default.ensures; line = tt }

pub fresh-requires : goal.fresh-requires
fresh-requires g c =
    let m = g.L.Line.model c.args.line in
    let rules = g.met.L.Line.rules c.args.line in
    (some_bit m c.in-Some.size c.in-Some.ensures rules, room m c.in-Some.size c.in-Some.ensures rules)

pub returns : goal.returns
returns g c =
    let is = c.fresh.ensures in
    record {
      receiving = ap Ok (same (receiving_of c.fresh.result) [] c.in-Some.size fresh is.heard is.size is.rounds) ∙ made (g.L.Line.model c.args.line) c.in-Some.size c.in-Some.ensures;
      line = is.line;
    }
