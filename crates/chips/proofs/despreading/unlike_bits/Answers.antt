use Rattle.std.proofs.Common.{ℕ, ◌∙◌, ap₂, rules}
use lib.Bits.{bit_xor}
use lib.Count.{ones, ones-le}
use Rattle.std.proofs.lemmas.Nat.{xor_lt}
use Rattle.chips.proofs.Counting.{unlike_words}
use Rattle.chips.proofs.despreading.unlike_bits.Goals as goal

pub returns : goal.returns
returns c = record {
  is = ap₂ (λ (x y : ℕ). ones (bit_xor x y)) c.from_be_bytes.ensures c.from_be_bytes-2.ensures
      ∙ unlike_words c.args.a c.args.b (search rules) (search rules) (λ i. search rules) (λ i. search rules);
  most = ones-le 64 _ (xor_lt 64 c.from_be_bytes.result c.from_be_bytes-2.result c.from_be_bytes.type_inv c.from_be_bytes-2.type_inv);
}
