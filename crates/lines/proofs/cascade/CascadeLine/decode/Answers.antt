use Rattle.line.proofs.CascadeRules.{in_room, decode_all}
use Rattle.lines.proofs.cascade.CascadeLine.decode.Goals as goal

pub split_at_mut-between-requires : goal.split_at_mut-between-requires
split_at_mut-between-requires g c =
    let line = c.args.self.now in
    in_room _ _ (g.met.U.Line.rules line.upper) (g.met.D.Line.rules line.lower) _ _ _ c.in-Some.ensures

pub returns : goal.returns
returns g c =
    let line = c.args.self.now in
    let all = decode_all _ _ (g.met.U.Line.rules line.upper) (g.met.D.Line.rules line.lower) c.args.bits.now c.args.out.now
    c.in-Some.middle c.in-Some.ensures _ c.decode.new.out c.in_ok-decode.ensures.answer c.decode.ensures.output
    c.decode-2.new.out c.decode-2.result c.decode-2.ensures.answer c.decode-2.ensures.output in
    record { answer = all.0; output = all.1 }
