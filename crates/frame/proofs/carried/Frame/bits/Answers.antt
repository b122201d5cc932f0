use Rattle.std.proofs.Common.{◌≡◌, ℕ, List, [], ◌++◌, length, take, drop, ap, ◌∙◌, ap₂, append_assoc, arith}
use Rattle.coding.specs.Bits.{bits}
use Rattle.buffers.specs.Buffer.{appended, padded}
use Rattle.field.specs.Code.{encode}
use Rattle.frame.specs.Frame.{unique_word, saying, checked, half_bits, frame_bits}
use Rattle.frame.specs.declared.carried.Frame.{Frame}
use Rattle.frame.proofs.Filling.{filled_by_three}
use Rattle.frame.proofs.Octets.{frame_length}
use Rattle.frame.proofs.AsSent.{judged_as_sent}
use Rattle.frame.proofs.carried.Frame.bits.Goals as goal

-- the parts of a frame, one after the other
parts : (f : Frame) (u a b p q r s : List ℕ) → u ≡ unique_word f.unique → a ≡ half_bits (take 4 f.identifier) f.first → b ≡ half_bits (drop 4 f.identifier) f.second → length f.identifier ≡ 8
    → p ≡ [] → q ≡ appended 244 p u → r ≡ appended 244 q a → s ≡ appended 244 r b → padded 244 s ≡ frame_bits f
parts f u a b p q r s eu ea eb l empty first second third =
    let same : (u ++ a) ++ b ≡ frame_bits f = append_assoc u a b ∙ ap₂ ◌++◌ eu (ap₂ ◌++◌ ea eb) in
    filled_by_three 244 u a p q r empty first second b s third (ap length same ∙ frame_length f l) ∙ same

pub returns : goal.returns
returns c =
    let f = c.args.self.now in
    let u : bits 22 c.unique_word.result ≡ unique_word f.unique = ap (bits 22) c.unique_word.ensures in
    let a : c.coded.result ≡ half_bits (take 4 f.identifier) f.first = c.coded.ensures ∙ ap (λ (b : List ℕ). encode (checked b)) (c.of.ensures ∙ ap (λ (o : List ℕ). saying o f.first) c.halves.ensures.high) in
    let b : c.coded-2.result ≡ half_bits (drop 4 f.identifier) f.second = c.coded-2.ensures ∙ ap (λ (b : List ℕ). encode (checked b)) (c.of-2.ensures ∙ ap (λ (o : List ℕ). saying o f.second) c.halves.ensures.low) in
    record {
      is = c.as_array.ensures ∙ parts f (bits 22 c.unique_word.result) c.coded.result c.coded-2.result _ _ _ _ u a b (omega arith) c.new-bits.ensures c.append_number.ensures c.extend.ensures c.extend-2.ensures;
      sent = judged_as_sent;
    }
