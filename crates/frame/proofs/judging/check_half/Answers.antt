use Rattle.std.proofs.Common.{◌≡◌, take, drop, sym, ap, ◌∙◌, lit≤}
use Rattle.coding.specs.Bits.{number}
use Rattle.coding.specs.Crc.{crc8}
use Rattle.frame.specs.Judging.{understood}
use Rattle.frame.proofs.Reading.{part_number, crc_right, crc_wrong}
use Rattle.frame.proofs.judging.check_half.Goals as goal

pub returns-then-read_bits-from : goal.returns-then-read_bits-from
returns-then-read_bits-from c =
    let w = c.args.codeword.now in
    let crc : c.from.result ≡ crc8 (take 61 w) = c.from.ensures ∙ c.check.ensures ∙ ap crc8 c.of_codeword-said.ensures in
    let read : c.read_bits.result ≡ number (take 8 (drop 61 w)) = part_number 61 8 c.read_bits.result w (lit≤ tt) c.requires c.read_bits.ensures in
    crc_wrong c.args.half w (λ e. c.if-read_bits-from.true (read ∙ e ∙ sym crc))

pub returns : goal.returns
returns c =
    let w = c.args.codeword.now in
    let crc : c.from.result ≡ crc8 (take 61 w) = c.from.ensures ∙ c.check.ensures ∙ ap crc8 c.of_codeword-said.ensures in
    let read : c.read_bits.result ≡ number (take 8 (drop 61 w)) = part_number 61 8 c.read_bits.result w (lit≤ tt) c.requires c.read_bits.ensures in
    crc_right c.args.half w c.understood.result (sym read ∙ c.if-read_bits-from.false ∙ crc) (c.understood.ensures ∙ ap understood c.of_codeword-said.ensures)
