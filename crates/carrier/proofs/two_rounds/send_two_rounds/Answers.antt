use Rattle.std.proofs.Common.{◌≡◌, ℕ, ◌+◌, ◌*◌, ◌≤◌, cond, leb, Ok, Err, sym, ap, ◌∙◌, subst, ap₂, mul-le-mul, arith}
use Rattle.std.proofs.lemmas.Result.{err_from_is_err_and}
use Rattle.card.specs.Card.{value_of, on_ok}
use Rattle.content.specs.Sequence.{round_length}
use Rattle.sender.specs.Sending.{sending_of, next_answer}
use Rattle.sender.specs.Takes.{after_calls}
use Rattle.sender.specs.declared.refusal.SenderRefusal.TheVariants.{FrameNumber}
use Rattle.carrier.specs.Receiving.{Receiving, receiving_of, fresh_of}
use Rattle.carrier.specs.Passing.{Passed, numbers_last, after_start}
use Rattle.carrier.proofs.Sent.{each_accepted, reader_made, no_refusal, came_of, answered}
use Rattle.carrier.proofs.Whole.{guarantee}
use Rattle.carrier.proofs.two_rounds.send_two_rounds.Goals as goal

pub returns-in_err-sender : goal.returns-in_err-sender
returns-in_err-sender g c =
    let p = err_from_is_err_and c.from_residual.result c.from_residual.ensures.1 in
    record {
      answer =
          ap (on_ok (λ _. tt)) (p.1 ∙ ap Err p.2)
          ∙ ap (after_start (value_of c.args.card.now) c.args.number) c.in_err-sender.ensures.sending;
      came = rw p.1 tt;
      guarantee = guarantee;
    }

pub returns-in_err-check_numbers : goal.returns-in_err-check_numbers
returns-in_err-check_numbers g c =
    let card = value_of c.args.card.now in
    let p = err_from_is_err_and c.from_residual-in_err-check_numbers.result c.from_residual-in_err-check_numbers.ensures.1 in
    let numbers = ap (λ (n : ℕ). cond (leb (c.args.number + n) 1_000_000_000) (Ok (tt {0})) (Err FrameNumber)) c.frames_of_two_rounds-frames.ensures.is in
    record {
      answer =
          ap (on_ok (λ _. tt)) (p.1 ∙ ap Err p.2)
          ∙ c.in_err-check_numbers.ensures
          ∙ numbers
          ∙ ap (after_start card c.args.number) c.in_ok-sender.ensures.sending;
      came = rw p.1 tt;
      guarantee = guarantee;
    }

pub returns-in_default : goal.returns-in_default
returns-in_default g c =
    let card = value_of c.args.card.now in
    let eight = c.args.card.now.identifier.eight in
    let numbers : Ok tt ≡ numbers_last card c.args.number =
    c.in_ok-check_numbers.ensures ∙ ap (λ (n : ℕ). cond (leb (c.args.number + n) 1_000_000_000) (Ok (tt {0})) (Err FrameNumber)) c.frames_of_two_rounds-frames.ensures.is
    in
    absurd (
    no_refusal (g.L.Line.model c.args.line) (g.met.L.Line.rules c.args.line) card c.args.number c.args.last eight
    (sending_of c.in_ok-sender.sender) (sym c.in_ok-sender.ensures.sending) numbers c.in_default.field-0 c.in_default.ensures.receiving)

pub pass_blocks-requires : goal.pass_blocks-requires
pass_blocks-requires g c =
    let m = g.L.Line.model c.args.line in
    let card = value_of c.args.card.now in
    let s = c.in_ok-sender.sender in
    let eight = c.args.card.now.identifier.eight in
    let numbers : Ok tt ≡ numbers_last card c.args.number =
    c.in_ok-check_numbers.ensures ∙ ap (λ (n : ℕ). cond (leb (c.args.number + n) 1_000_000_000) (Ok (tt {0})) (Err FrameNumber)) c.frames_of_two_rounds-frames.ensures.is
    in
    let starts = sym c.in_ok-sender.ensures.sending in
    let rules = g.met.L.Line.rules c.args.line in
    let fresh = reader_made m rules card c.args.number c.args.last eight (sending_of s) starts numbers (receiving_of c.in-Ok.reader) c.in-Ok.ensures.receiving in
    let size : c.reset.new.self.size ≡ m.line_length 244 =
    ap (λ (x : Receiving). x.size) (c.reset.ensures.receiving ∙ ap (λ (x : Receiving). fresh_of x.size) fresh)
    in
    let count : c.frames_of_two_rounds-frames.result * c.reset.new.self.size ≡ 2 * round_length card * m.line_length 244 =
    ap₂ ◌*◌ c.frames_of_two_rounds-frames.ensures.is size
    in
    let most : c.frames_of_two_rounds-frames.result * c.reset.new.self.size ≤ 14 * 4096 =
    mul-le-mul c.frames_of_two_rounds-frames.ensures.most c.reset.new.self.room
    in
    record {
      few = omega arith;
      writes = λ i h.
          subst (λ l. next_answer (after_calls (g.L.Line.model l) i (sending_of s)) 512 ≡ Ok tt) (sym c.in_ok-sender.ensures.line)
          (each_accepted m rules card c.args.number c.args.last eight (sending_of s) starts numbers i (omega arith));
    }

pub returns : goal.returns
returns g c =
    let m = g.L.Line.model c.args.line in
    let card = value_of c.args.card.now in
    let s = c.in_ok-sender.sender in
    let eight = c.args.card.now.identifier.eight in
    let numbers : Ok tt ≡ numbers_last card c.args.number =
    c.in_ok-check_numbers.ensures ∙ ap (λ (n : ℕ). cond (leb (c.args.number + n) 1_000_000_000) (Ok (tt {0})) (Err FrameNumber)) c.frames_of_two_rounds-frames.ensures.is
    in
    let starts = sym c.in_ok-sender.ensures.sending in
    let rules = g.met.L.Line.rules c.args.line in
    let fresh = reader_made m rules card c.args.number c.args.last eight (sending_of s) starts numbers (receiving_of c.in-Ok.reader) c.in-Ok.ensures.receiving in
    let reset : receiving_of c.reset.new.self ≡ fresh_of (m.line_length 244) = c.reset.ensures.receiving ∙ ap (λ (x : Receiving). fresh_of x.size) fresh in
    let count : c.frames_of_two_rounds-frames.result * c.reset.new.self.size ≡ 2 * round_length card * m.line_length 244 =
    ap₂ ◌*◌ c.frames_of_two_rounds-frames.ensures.is (ap (λ (x : Receiving). x.size) reset)
    in
    let line : c.reset.new.self.line ≡ c.args.line = c.reset.ensures.line ∙ c.in-Ok.ensures.line in
    let t = c.in_ok-tally.tally in
    let after = receiving_of c.pass_blocks.new.reader in
    let passed : Passed m (2 * round_length card * m.line_length 244) (fresh_of (m.line_length 244)) t.refused t.closed after =
    subst (λ (n : ℕ). Passed m n (fresh_of (m.line_length 244)) t.refused t.closed after) count (
    subst (λ (x : Receiving). Passed m (c.frames_of_two_rounds-frames.result * c.reset.new.self.size) x t.refused t.closed after) reset (
    subst (λ l. Passed (g.L.Line.model l) (c.frames_of_two_rounds-frames.result * c.reset.new.self.size) (receiving_of c.reset.new.self) t.refused t.closed after) line
    c.in_ok-tally.ensures.passed))
    in
    record {
      answer = answered m rules card c.args.number c.args.last eight (sending_of s) starts numbers;
      came = came_of m rules card c.args.number c.args.last eight (sending_of s) starts numbers t.refused t.closed _ after passed c.card.ensures;
      guarantee = guarantee;
    }
