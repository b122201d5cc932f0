use Rattle.std.proofs.Common.{◌≡◌, true, List, ℕ, Ok, ◌++◌, length, replicate, ap, ◌∙◌, arith}
use Rattle.std.specs.Result.{result_unwrap_or}
use Rattle.std.proofs.lemmas.List.{length-append}
use Rattle.std.proofs.lemmas.Bool.{cond-true}
use Rattle.coding.specs.Bits.{are_bits, bits}
use Rattle.coding.specs.Crc.{crc8}
use Rattle.coding.proofs.Words.{length_bits, bits_append, bits_bits}
use Rattle.field.specs.Code.{encode}
use Rattle.frame.specs.Frame.{checked}
use Rattle.frame.proofs.Filling.{filled_by_two}
use Rattle.frame.proofs.half.Said.coded.Goals as goal

pub returns : goal.returns
returns c =
    let s = c.args.self.now in
    let check : bits 8 c.from.result ≡ bits 8 (crc8 s.bits) = ap (bits 8) (c.from.ensures ∙ c.check.ensures) in
    let long : length (s.bits ++ bits 8 c.from.result) ≡ 69 = length-append s.bits (bits 8 c.from.result) ∙ omega (arith, s.whole, length_bits 8 c.from.result) in
    let filled : c.as_array.result.now ≡ checked s.bits = c.as_array.ensures ∙ filled_by_two 69 s.bits (bits 8 c.from.result) _ _ _ c.new-bits.ensures c.extend.ensures c.append_number.ensures long ∙ ap (λ (b : List ℕ). s.bits ++ b) check in
    let bits : are_bits c.as_array.result.now ≡ true = ap are_bits filled ∙ bits_append s.bits (bits 8 (crc8 s.bits)) s.are_bits (bits_bits 8 (crc8 s.bits)) in
    let ok = c.encode.ensures.is ∙ cond-true (are_bits c.as_array.result.now) (Ok (encode c.as_array.result.now)) _ bits in
    c.unwrap_or.ensures ∙ ap (λ r. result_unwrap_or r (replicate {A = ℕ} 111 0)) ok ∙ ap encode filled
