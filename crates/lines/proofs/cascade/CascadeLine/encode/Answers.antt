use Rattle.line.proofs.CascadeRules.{in_room, encode_all}
use Rattle.lines.proofs.cascade.CascadeLine.encode.Goals as goal

pub split_at_mut-between-requires : goal.split_at_mut-between-requires
split_at_mut-between-requires g c =
    let line = c.args.self.now in
    in_room _ _ (g.met.U.Line.rules line.upper) (g.met.D.Line.rules line.lower) _ _ _ c.in-Some.ensures

pub returns : goal.returns
returns g c =
    let line = c.args.self.now in
    let all = encode_all _ _ (g.met.U.Line.rules line.upper) (g.met.D.Line.rules line.lower) c.args.word.now _ c.in-Some.middle
    c.in-Some.ensures _ c.encode.new.out c.in_ok-encode.ensures.answer c.encode.ensures.output c.args.last c.args.out.now
    c.encode-2.new.out c.encode-2.result c.encode-2.ensures.answer c.encode-2.ensures.output in
    record { answer = all.0; output = all.1 }
