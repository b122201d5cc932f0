use Rattle.std.proofs.Common.{replicate, ◌∙◌}
use Rattle.line.proofs.Accepted.{line, damaged}
use Rattle.line.proofs.Answers.{decodes}
use Rattle.trial.proofs.over_lines.errors_left.Goals as goal

pub flip-requires : goal.flip-requires
flip-requires g c =
    (line _ (g.met.L.Line.rules c.args.line.now) c.args.word.now 1 c.args.bits.now c.encode.new.out c.encode.result
    c.encode.ensures.answer c.in_ok-encode.was c.encode.ensures.output).1

pub returns : goal.returns
returns g c =
    let m = g.L.Line.model c.args.line.now in
    let bound = damaged m (g.met.L.Line.rules c.args.line.now) c.args.word.now 1 c.args.bits.now c.encode.new.out
    c.encode.result c.encode.ensures.answer c.in_ok-encode.was c.encode.ensures.output c.flip.new.bits _
    c.flip.auto.bits c.flip.ensures.bits c.flip.ensures.few in
    let back = c.decode.ensures.output ∙ (decodes m c.flip.new.bits (replicate 244 0) c.in_ok-decode.ensures.answer).output in
    rw (c.distance.ensures, back) bound
