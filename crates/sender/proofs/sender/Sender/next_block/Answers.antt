use Rattle.std.proofs.Common.{ℕ, ◌+◌, ◌≤◌, cond, eqb, length, get_or, Err, refl, ap, ◌∙◌, arith}
use Rattle.std.proofs.lemmas.Result.{err_from_is_err_and}
use Rattle.card.specs.Card.{value_of}
use Rattle.sender.specs.Sending.{Sending, sending_of, after_first}
use Rattle.sender.proofs.Calling.{not_refused, refused, accepted}
use Rattle.sender.proofs.Steps.{first_is, first_sent, left_same}
use Rattle.sender.proofs.Takes.{sends_takes}
use Rattle.sender.proofs.Chipped.{standard_signal}
use Rattle.sender.proofs.sender.Sender.next_block.Goals as goal

pub returns-in_err-check_call : goal.returns-in_err-check_call
returns-in_err-check_call g c =
    let s = c.args.self.now in
    let p = err_from_is_err_and c.from_residual.result c.from_residual.ensures.1 in
    let q = refused (g.L.Line.model s.line) (sending_of s) c.args.out.now _ c.in_err-check_call.ensures in
    record {
      answer = p.1 ∙ ap Err p.2 ∙ c.in_err-check_call.ensures;
      output = q.0;
      sending = q.1;
      line = refl;
      takes = sends_takes;
      standard = standard_signal;
    }

pub returns-in_err-spread : goal.returns-in_err-spread
returns-in_err-spread g c =
    absurd (not_refused c.args.self.now.number c.args.out.now _ c.in_ok-check_call.ensures c.in_err-spread.ensures.answer)

pub returns : goal.returns
returns g c =
    let s = c.args.self.now in
    let ready = c.ready.ensures.sending in
    let r = c.ready.new.self in
    let f = c.first_left.new.self in
    let is = c.first_left.ensures in
    let within = c.ready.ensures.within in
    let room : r.size ≤ length r.bits = omega (arith, r.full, r.room) in
    let p =
    accepted (g.L.Line.model s.line) (sending_of s) c.args.out.now c.first_left.result
    (sending_of c.first_left.new.self) c.spread.new.out c.in_ok-check_call.ensures
    (is.bit ∙ first_is r.sent r.size r.bits room within ∙ ap (λ (x : Sending). get_or x.left 0 0) ready)
    (first_sent r.sent r.size r.bits room within (sending_of r) (sending_of f) refl (ap value_of is.card) is.number
    (is.last ∙ ap (λ (b : ℕ). cond (eqb (r.sent + 1) r.size) b r.last) is.bit) is.size
    (left_same is.sent is.size is.bits) ∙ ap (λ (x : Sending). after_first x x.left) ready)
    c.spread.ensures.output
    in
    record {
      answer = c.in_ok-check_call.ensures;
      output = p.0;
      sending = p.1;
      line = c.first_left.ensures.line ∙ c.ready.ensures.line;
      takes = sends_takes;
      standard = standard_signal;
    }
