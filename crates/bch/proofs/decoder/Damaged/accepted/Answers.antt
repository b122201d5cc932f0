use Rattle.std.proofs.Common.{sym, arith}
use Rattle.bch.specs.Nearest.{Near}
use Rattle.bch.specs.Search.{leftover}
use Rattle.std.proofs.lemmas.Bool.{eqb-true, eqb-false}
use Rattle.bch.proofs.Remainders.{codeword_from, codeword_leftover}
use Rattle.bch.proofs.decoder.Damaged.accepted.Goals as goal

pub returns-then-not-is_codeword : goal.returns-then-not-is_codeword
returns-then-not-is_codeword c = λ n.
    eqb-false (leftover c.args.word.now.bits) 0 (sym c.if-not-is_codeword.ensures) (codeword_leftover c.args.word.now.bits n.code)

pub returns : goal.returns
returns c =
    let w = c.args.word.now.bits in
    let r = c.args.self.now.word.bits in
    let near : Near r w =
    record {
      code = codeword_from w (omega arith) c.args.word.now.are_bits (eqb-true (leftover w) 0 (sym c.if-not-is_codeword.ensures));
      near = omega (arith, c.distance-places.ensures, c.if-places-gt-RADIUS.false);
    }
    in
    (near, c.distance-places.ensures)
