use Rattle.std.proofs.Common.{drop, arith}
use Rattle.coding.proofs.Words.{bits_drop}
use Rattle.frame.proofs.Reading.{small_number, part_number}
use Rattle.frame.proofs.half.Said.small.Goals as goal

pub overflow_cast-result : goal.overflow_cast-result
overflow_cast-result c =
    let s = c.args.self.now in
    let e = part_number c.args.at c.args.width c.read_bits.result s.bits (omega (arith, c.requires.1)) s.are_bits c.read_bits.ensures in
    record { fits = omega (arith, e, small_number c.args.width (drop c.args.at s.bits) c.requires.1 (bits_drop c.args.at s.bits s.are_bits)) }

pub returns : goal.returns
returns c = part_number c.args.at c.args.width c.read_bits.result c.args.self.now.bits (omega (arith, c.requires.1)) c.args.self.now.are_bits c.read_bits.ensures
