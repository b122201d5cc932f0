use Rattle.std.proofs.Common.{◌≡◌, ◌+◌, [], ◌∷◌, ◌++◌, length, length-append, ap, ◌∙◌, arith}
use Rattle.buffers.specs.Buffer.{text_of}
use Rattle.buffers.proofs.Appending.{appended_whole}
use Rattle.carrier.proofs.reader.Reader.hear.Goals as goal

pub invariant_of-self : goal.invariant_of-self
invariant_of-self g c =
    let s = c.args.self.now in
    let before = text_of s.heard in
    let heard = c.push.ensures ∙ appended_whole 4096 before (c.args.bit ∷ []) (omega (arith, s.room, s.within, length-append before (c.args.bit ∷ []))) in
    record { room = s.room; within = omega (arith, c.len.ensures.value, ap length heard, length-append before (c.args.bit ∷ [])) }

pub returns-then-len-self-clause-heard : goal.returns-then-len-self-clause-heard
returns-then-len-self-clause-heard g c =
    let s = c.args.self.now in
    let before = text_of s.heard in
    let long : length (before ++ (c.args.bit ∷ [])) ≡ length before + 1 = length-append before (c.args.bit ∷ []) in
    let heard = c.push.ensures ∙ appended_whole 4096 before (c.args.bit ∷ []) (omega (arith, s.room, s.within)) in
    record { short = omega (arith, c.len.ensures.value); heard = heard }

pub returns-clause-heard : goal.returns-clause-heard
returns-clause-heard g c =
    let s = c.args.self.now in
    let before = text_of s.heard in
    let long : length (before ++ (c.args.bit ∷ [])) ≡ length before + 1 = length-append before (c.args.bit ∷ []) in
    let heard = c.push-2.ensures ∙ appended_whole 4096 before (c.args.bit ∷ []) (omega (arith, s.room, s.within)) in
    record { long = omega (arith, c.len.ensures.value, s.within); heard = heard; fresh = c.clear.ensures }
