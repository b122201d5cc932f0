use Rattle.std.proofs.Common.{◌≡◌, ℕ, ◌<◌, ◌≤◌, List, length, refl, ap, ◌∙◌, arith, rules}
use Rattle.sender.specs.Sending.{sending_of, with_left, begun, to_send}
use Rattle.sender.proofs.Making.{all_sent}
use Rattle.sender.proofs.Steps.{left_of, goes_on, begins}
use Rattle.sender.proofs.sender.Sender.ready.Goals as goal

pub returns-then-self : goal.returns-then-self
unfolding to_send
returns-then-self g c =
    let s = c.args.self.now in
    let m = g.L.Line.model s.line in
    let none = ap (λ (n : ℕ). left_of n s.size s.bits) c.if-self.true ∙ all_sent s.size s.bits in
    let size : c.begin.new.self.size ≡ s.size = ap (λ x. x.size) c.begin.ensures.sending in
    record {
      sending =
          c.begin.ensures.sending
          ∙ ap (λ (left : List ℕ). with_left left (sending_of s)) (begins (left_of s.sent s.size s.bits) (begun m (sending_of s)) none);
      within = omega (arith, c.begin.ensures.start, c.begin.new.self.some);
      line = c.begin.ensures.line;
    }

pub returns-else-self : goal.returns-else-self
unfolding to_send
returns-else-self g c =
    let s = c.args.self.now in
    let m = g.L.Line.model s.line in
    let room : s.size ≤ length s.bits = search rules in
    let some : s.sent < s.size = omega (arith, s.within, c.if-self.false) in
    record {
      sending = ap (λ (left : List ℕ). with_left left (sending_of s)) (goes_on s.sent s.size s.bits room some (begun m (sending_of s)));
      within = some;
      line = refl;
    }
