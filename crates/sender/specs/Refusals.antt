-- The number, the half and the place of each refusal of a sender. 0 stands where one has no meaning.
use Rattle.std.specs.Prelude.{ℕ}
use Rattle.reports.specs.declared.report.Report.{Report}
use Rattle.chips.specs.declared.refusal.BlockRefusal.{BlockRefusal}
use Rattle.chips.specs.declared.refusal.BlockRefusal.TheVariants.{WrongLength}
use Rattle.sender.specs.declared.refusal.SenderRefusal.{SenderRefusal}
use Rattle.sender.specs.declared.refusal.SenderRefusal.TheVariants.{FrameNotTaken, LastBit, FrameNumber, BlockLength}

abbrev pub number_of : SenderRefusal → ℕ
number_of FrameNotTaken = 12
number_of LastBit = 13
number_of FrameNumber = 14
number_of BlockLength = 15

abbrev pub half_of : SenderRefusal → ℕ
half_of r = 0

abbrev pub place_of : SenderRefusal → ℕ
place_of r = 0

abbrev pub report_of : SenderRefusal → Report
report_of r = record { number = number_of r; half = half_of r; place = place_of r }

-- an output that is no block
abbrev pub of_block : BlockRefusal → SenderRefusal
of_block WrongLength = BlockLength
