use Rattle.std.proofs.Common.{◌≡◌, true, Ok, Err, sym, ap, ◌∙◌, subst}
use Rattle.std.proofs.lemmas.Bool.{cond-true}
use Rattle.coding.specs.Bits.{are_bits}
use Rattle.coding.specs.Polynomial.{OnlyRemainder}
use Rattle.field.specs.Code.{generator, encode, Codeword}
use Rattle.field.proofs.Roots.{roots, parity_remains}
use Rattle.field.proofs.Differences.{far}
use Rattle.bch.specs.declared.word.CodeRefusal.TheVariants.{NotBits}
use Rattle.bch.proofs.Codewords.{encoded_code, encode_is, parity_read}
use Rattle.bch.proofs.encoder.encode.Goals as goal

pub returns : goal.returns
returns c =
    let d = c.args.«data».now in
    let bit : are_bits d ≡ true = sym c.if-not-are_bits.ensures in
    let e : c.with_parity.result ≡ encode d = encode_is d c.with_parity.result c.parity.result c.with_parity.ensures
    c.parity.ensures in
    let code : Codeword c.with_parity.result = subst Codeword (sym e) (encoded_code d c.told-data bit) in
    record {
      is = ap Ok e ∙ sym (cond-true (are_bits d) (Ok (encode d)) (Err NotBits) bit);
      only = λ w q. let s : w ≡ encode d = cc in subst (OnlyRemainder 42 generator 0 d) (sym (parity_read d w c.told-data bit s))
          (parity_remains d bit);
      roots = λ w q i h. roots w (let s : c.with_parity.result ≡ w = cc in subst Codeword s code) i h;
      far = λ w v q cv near. far w v (let s : c.with_parity.result ≡ w = cc in subst Codeword s code) cv near;
    }
