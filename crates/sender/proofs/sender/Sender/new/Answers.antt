use Rattle.std.proofs.Common.{Ok, Err, sym, ap, ◌∙◌}
use Rattle.std.proofs.lemmas.Result.{err_from_is_err_and}
use Rattle.card.specs.Card.{value_of, on_ok}
use Rattle.sender.specs.Sending.{sending_of}
use Rattle.sender.proofs.Making.{refused_line, refused_start, made, some_bit, room, none_left}
use Rattle.sender.proofs.Steps.{same}
use Rattle.sender.proofs.sender.Sender.new.Goals as goal

pub returns-in_default : goal.returns-in_default
returns-in_default g c =
    record {
      sending = refused_line (g.L.Line.model c.args.line) (value_of c.args.card) c.args.number c.args.last c.in_default.ensures;
      line = tt;
    }

pub returns-in_err-check_start : goal.returns-in_err-check_start
returns-in_err-check_start g c =
    let m = g.L.Line.model c.args.line in
    let p = err_from_is_err_and c.from_residual.result c.from_residual.ensures.1 in
    let started = refused_start m (value_of c.args.card) c.args.number c.args.last c.in-Some.size c.in-Some.ensures in
    record {
      sending = ap (on_ok sending_of) (p.1 ∙ ap Err p.2) ∙ started c.in_err-check_start.field-0.0 c.in_err-check_start.ensures;
      line = rw p.1 tt;
    }

pub between_takes-requires : goal.between_takes-requires
between_takes-requires g c =
    let m = g.L.Line.model c.args.line in
    let rules = g.met.L.Line.rules c.args.line in
    let card = value_of c.args.card in (
      some_bit m card c.args.number c.args.last c.in-Some.size c.in-Some.ensures rules,
      room m card c.args.number c.args.last c.in-Some.size c.in-Some.ensures rules,
    )

pub returns : goal.returns
returns g c =
    let m = g.L.Line.model c.args.line in
    let s = c.between_takes.result in
    let is = c.between_takes.ensures in
    record {
      sending =
          ap Ok (same (sending_of s) (value_of c.args.card) c.args.number c.args.last c.in-Some.size _
          (ap value_of is.card) is.number is.last is.size (none_left s.sent s.size s.bits (is.sent ∙ sym is.size)))
          ∙ made m (value_of c.args.card) c.args.number c.args.last c.in-Some.size c.in-Some.ensures
          c.in_ok-check_start.ensures;
      line = is.line;
    }
