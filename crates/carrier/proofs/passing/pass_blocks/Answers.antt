use Rattle.std.proofs.Common.{◌≡◌, refl, ap, ◌∙◌, subst, arith, rules}
use Rattle.sender.specs.Sending.{sending_of, next_sending}
use Rattle.sender.specs.Takes.{after_calls}
use Rattle.card.specs.Card.{on_ok}
use Rattle.round.specs.Views.{answer_of}
use Rattle.carrier.specs.Receiving.{receiving_of}
use Rattle.carrier.specs.Passing.{OneMore}
use Rattle.carrier.proofs.Passes.{none_passed, one_passed, one_sent, refused_most, closed_most}
use Rattle.carrier.proofs.passing.pass_blocks.Goals as goal

pub loop-i-init : goal.loop-i-init
unfolding after_calls
loop-i-init g c =
    let refused : c.default-tally.result.refused ≡ 0 = search rules in
    let closed : c.default-tally.result.closed ≡ 0 = search rules in
    (none_passed (g.L.Line.model c.args.reader.now.line) (receiving_of c.args.reader.now) _ _ refused closed, refl, refl, refl, omega (arith, refused), omega (arith, closed))

pub loop-i-preserved : goal.loop-i-preserved
loop-i-preserved g c =
    let inv = c.loop-i.invariant in
    let m = g.L.Line.model c.args.reader.now.line in
    let i = c.loop-i._i in
    let r = c.pass_block.new.reader in
    let s = c.pass_block.new.sender in
    let t = c.with-tally.result in
    let counts = c.with-tally.ensures in
    let a = on_ok answer_of c.in_ok-answer.answer in
    let more : OneMore m (receiving_of c.loop-i.reader) a (receiving_of r) =
    subst (λ l. OneMore (g.L.Line.model l) (receiving_of c.loop-i.reader) a (receiving_of r)) inv.2 c.in_ok-answer.ensures.heard
    in
    let sending = c.pass_block.ensures.sending ∙ ap (λ l. next_sending (g.L.Line.model l) (sending_of c.loop-i.sender) 512) inv.3 in (
      one_passed m i (receiving_of c.args.reader.now) (receiving_of c.loop-i.reader) (receiving_of r) _ _ _ _ a inv.0 more counts.refused counts.closed,
      one_sent (g.L.Line.model c.args.sender.now.line) i (sending_of c.args.sender.now) (sending_of c.loop-i.sender) (sending_of s) inv.1 sending,
      c.pass_block.ensures.reader_line ∙ inv.2,
      c.pass_block.ensures.sender_line ∙ inv.3,
      omega (arith, inv.4, counts.refused, refused_most a),
      omega (arith, inv.5, counts.closed, closed_most a),
    )
