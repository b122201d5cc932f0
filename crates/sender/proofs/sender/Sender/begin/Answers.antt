use Rattle.std.proofs.Common.{◌≡◌, ℕ, List, take, replicate, refl, ap, ◌∙◌}
use Rattle.line.specs.Calls.{encode_output}
use Rattle.frame.specs.Frame.{frame_bits, frame_of}
use Rattle.sender.specs.Sending.{sending_of, with_left, begun}
use Rattle.sender.proofs.sender.Sender.begin.Goals as goal

pub returns : goal.returns
unfolding begun
returns g c =
    let s = c.args.self.now in
    let m = g.L.Line.model s.line in
    let word : c.bits-word.result ≡ frame_bits (frame_of (sending_of s).card s.number) =
    c.bits-word.ensures.is ∙ ap frame_bits c.of.ensures
    in
    let bits : take s.size c.line_bits-self.result ≡ begun m (sending_of s) =
    c.line_bits-self.ensures ∙ ap (λ (w : List ℕ). encode_output m w s.last (replicate s.size 0)) word
    in
    record { sending = ap (λ (left : List ℕ). with_left left (sending_of s)) bits; start = refl; line = refl }
