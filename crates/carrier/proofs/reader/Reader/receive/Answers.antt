use Rattle.std.proofs.Common.{◌≡◌, ℕ, List, [], replicate, Err, Result, sym, refl, ap, ◌∙◌, ap₂}
use Rattle.std.proofs.lemmas.Result.{err_from_is_err_and}
use Rattle.card.specs.Card.{on_ok}
use Rattle.chips.proofs.Lengths.{only_length}
use Rattle.buffers.specs.Buffer.{text_of}
use Rattle.line.specs.Line.{Model}
use Rattle.line.specs.Calls.{decode_output}
use Rattle.frame.specs.Judging.{judged}
use Rattle.frame.specs.declared.carried.Frame.{Frame}
use Rattle.frame.specs.declared.refusal.FrameRefusal.{FrameRefusal}
use Rattle.round.specs.Rounds.{Reading, Outcome, on_take}
use Rattle.round.specs.Views.{answer_of, reading_of}
use Rattle.carrier.specs.Refusals.{of_block}
use Rattle.carrier.specs.Receiving.{Received, receiving_of, of_take, take_outcome}
use Rattle.carrier.proofs.Blocks.{no_block, a_block, not_whole, whole, same}
use Rattle.carrier.proofs.reader.Reader.receive.Goals as goal

pub returns-in_err-bit : goal.returns-in_err-bit
returns-in_err-bit g c =
    let s = c.args.self.now in
    let p = err_from_is_err_and c.from_residual.result c.from_residual.ensures.1 in
    let is = no_block (g.L.Line.model s.line) (receiving_of s) c.args.block.now _ c.in_err-bit.ensures.answer in
    record {
      answer = ap (on_ok answer_of) (p.1 ∙ ap Err (p.2 ∙ ap of_block (only_length _))) ∙ sym (ap (λ (x : Received). x.answer) is);
      after = sym (ap (λ (x : Received). x.after) is);
      line = refl;
    }

pub returns-in-None : goal.returns-in-None
returns-in-None g c =
    let s = c.args.self.now in
    let m = g.L.Line.model s.line in
    let h = c.in-None.ensures.heard in
    let is = a_block m (receiving_of s) c.args.block.now c.in_ok-bit.bit c.in_ok-bit.ensures.answer ∙ not_whole m (receiving_of s) c.in_ok-bit.bit h.short in
    record {
      answer = sym (ap (λ (x : Received). x.answer) is);
      after = same (receiving_of c.hear.new.self) _ _ _ h.heard c.in-None.ensures.size (ap reading_of c.in-None.ensures.rounds) ∙ sym (ap (λ (x : Received). x.after) is);
      line = c.in-None.ensures.line;
    }

-- what the round makes of the whole take
same_take : (m n : Model) (r q : Reading) (bits heard : List ℕ) (judged_as : Result Frame FrameRefusal) → judged_as ≡ judged (decode_output n bits (replicate 244 0)) → n ≡ m → bits ≡ heard → q ≡ r
    → on_take q judged_as ≡ take_outcome m r heard
unfolding take_outcome
same_take m n r q bits heard t e f h k =
    ap₂ on_take k (e ∙ ap₂ (λ (l : Model) (b : List ℕ). judged (decode_output l b (replicate 244 0))) f h)

pub returns-in_err-take-in-Some : goal.returns-in_err-take-in-Some
returns-in_err-take-in-Some g c =
    let s = c.args.self.now in
    let m = g.L.Line.model s.line in
    let x = c.in-Some.ensures in
    let h = x.heard in
    let is = a_block m (receiving_of s) c.args.block.now c.in_ok-bit.bit c.in_ok-bit.ensures.answer ∙ whole m (receiving_of s) c.in_ok-bit.bit h.long in
    let took = same_take m _ _ _ _ _ _ c.judge_bits.ensures (ap g.L.Line.model x.line) (c.as_slice.ensures.value ∙ h.heard) (ap reading_of x.rounds) in
    let p = err_from_is_err_and c.from_residual-in_err-take-in-Some.result c.from_residual-in_err-take-in-Some.ensures.1 in
    record {
      answer =
          ap (on_ok answer_of) (p.1 ∙ ap Err p.2)
          ∙ ap of_take (c.in_err-take-in-Some.ensures.answer ∙ ap (λ (o : Outcome). o.answer) took) ∙ sym (ap (λ (y : Received). y.answer) is);
      after = same (record { heard = text_of c.hear.new.self.heard; size = c.hear.new.self.size; reading = reading_of c.take.new.self }) [] _ _ h.fresh x.size (c.take.ensures.after ∙ ap (λ (o : Outcome). o.after) took) ∙ sym (ap (λ (y : Received). y.after) is);
      line = x.line;
    }

pub returns-in_ok-take-in-Some : goal.returns-in_ok-take-in-Some
returns-in_ok-take-in-Some g c =
    let s = c.args.self.now in
    let m = g.L.Line.model s.line in
    let x = c.in-Some.ensures in
    let h = x.heard in
    let is = a_block m (receiving_of s) c.args.block.now c.in_ok-bit.bit c.in_ok-bit.ensures.answer ∙ whole m (receiving_of s) c.in_ok-bit.bit h.long in
    let took = same_take m _ _ _ _ _ _ c.judge_bits.ensures (ap g.L.Line.model x.line) (c.as_slice.ensures.value ∙ h.heard) (ap reading_of x.rounds) in
    record {
      answer = ap of_take (c.in_ok-take-in-Some.ensures.answer ∙ ap (λ (o : Outcome). o.answer) took) ∙ sym (ap (λ (y : Received). y.answer) is);
      after = same (record { heard = text_of c.hear.new.self.heard; size = c.hear.new.self.size; reading = reading_of c.take.new.self }) [] _ _ h.fresh x.size (c.take.ensures.after ∙ ap (λ (o : Outcome). o.after) took) ∙ sym (ap (λ (y : Received). y.after) is);
      line = x.line;
    }
