use Rattle.std.proofs.Common.{◌≡◌, ℕ, ◌*◌, ◌%◌, List, length, get_or, set, ap, ◌∙◌, arith}
use lib.Bits.{bit_xor}
use Rattle.std.proofs.lemmas.Bool.Decides.{nat_tests}
use Rattle.std.proofs.lemmas.List.Edits.{fill_by_more}
use Rattle.chips.specs.Chips.{block}
use Rattle.chips.proofs.Patterns.{pattern_rule}
use Rattle.chips.proofs.Blocks.{masked, block_written, block_law}
use Rattle.chips.proofs.spreading.spread.Goals as goal

pub returns-in_err-check_length-clause-rule : goal.returns-in_err-check_length-clause-rule
returns-in_err-check_length-clause-rule c = pattern_rule

pub returns-in_err-check_length-clause-chips : goal.returns-in_err-check_length-clause-chips
returns-in_err-check_length-clause-chips c = block_law

pub loop-i-preserved : goal.loop-i-preserved
loop-i-preserved c =
    let b = c.args.bit in
    let i = c.loop-i.i in
    let long : length c.args.out.now ≡ 512 = grind (arith, nat_tests, c.in_ok-check_length.ensures) in
    let octet : bit_xor (get_or c.pattern_octets-pattern.result.now i 0) (255 * (b % 2)) ≡ get_or (block b) i 0 =
    ap (λ (z : List ℕ). bit_xor (get_or z i 0) (255 * (b % 2))) c.pattern_octets-pattern.ensures ∙ masked b i (omega arith)
    in
    λ k h.
    ap (λ (v : ℕ). get_or (set c.loop-i.out i v) k 0) octet
    ∙ fill_by_more (λ j. get_or (block b) j 0) c.loop-i.out i 0 (omega arith) c.loop-i.invariant k h

pub returns-clause-output : goal.returns-clause-output
returns-clause-output c =
    let long : length c.args.out.now ≡ 512 = grind (arith, nat_tests, c.in_ok-check_length.ensures) in
    let written = block_written c.args.bit c.loop-i.out (omega arith) (λ k h. c.loop-i.invariant k (omega arith)) in
    grind (arith, nat_tests, written)

pub returns-clause-rule : goal.returns-clause-rule
returns-clause-rule c = pattern_rule

pub returns-clause-chips : goal.returns-clause-chips
returns-clause-chips c = block_law
