-- What spread and despread answer and leave behind, in every case.
use Rattle.std.specs.Prelude.{ℕ, cond, List, length, Ok, Err, Result, ◌==◌}
use Rattle.chips.specs.declared.refusal.BlockRefusal.{BlockRefusal}
use Rattle.chips.specs.declared.refusal.BlockRefusal.TheVariants.{WrongLength}
use Rattle.chips.specs.Chips.{block, despread}

-- what is answered to a number of octets: a block has 512
abbrev pub length_answer : ℕ → Result (Unit {0}) BlockRefusal
length_answer octets = cond (octets == 512) (Ok tt) (Err WrongLength)

-- spreading a bit into a buffer; one of another length stays as it was
abbrev pub spread_answer : List ℕ → Result (Unit {0}) BlockRefusal
spread_answer buffer = length_answer (length buffer)

abbrev pub spread_output : ℕ → List ℕ → List ℕ
spread_output b buffer = cond (length buffer == 512) (block b) buffer

-- despreading what was heard
abbrev pub despread_answer : List ℕ → Result ℕ BlockRefusal
despread_answer heard = cond (length heard == 512) (Ok (despread heard)) (Err WrongLength)
