use Rattle.std.proofs.Common.{rules}
use Rattle.chips.specs.Chips.{despread}
use Rattle.chips.proofs.Hearing.{kept_bit, heard_bits_lem}
use Rattle.chips.proofs.despreading.despread.Goals as goal

pub returns-in_err-check_length-clause-kept : goal.returns-in_err-check_length-clause-kept
returns-in_err-check_length-clause-kept c = kept_bit

pub returns-in_err-check_length-clause-bits : goal.returns-in_err-check_length-clause-bits
returns-in_err-check_length-clause-bits c = heard_bits_lem

pub returns-clause-answer : goal.returns-clause-answer
unfolding despread
returns-clause-answer c = search rules

pub returns-clause-kept : goal.returns-clause-kept
returns-clause-kept c = kept_bit

pub returns-clause-bits : goal.returns-clause-bits
returns-clause-bits c = heard_bits_lem
