-- The number, the half and the place of each refusal of a reader. 0 stands where one has no meaning.
use Rattle.std.specs.Prelude.{ℕ}
use Rattle.reports.specs.declared.report.Report.{Report}
use Rattle.chips.specs.declared.refusal.BlockRefusal.{BlockRefusal}
use Rattle.chips.specs.declared.refusal.BlockRefusal.TheVariants.{WrongLength}
use Rattle.round.specs.Refusals as round
use Rattle.carrier.specs.declared.refusal.ReaderRefusal.{ReaderRefusal}
use Rattle.carrier.specs.declared.refusal.ReaderRefusal.TheVariants.{FrameNotTaken, BlockLength, Take}

abbrev pub number_of : ReaderRefusal → ℕ
number_of FrameNotTaken = 12
number_of BlockLength = 15
number_of (Take refusal) = round.number_of refusal

abbrev pub half_of : ReaderRefusal → ℕ
half_of FrameNotTaken = 0
half_of BlockLength = 0
half_of (Take refusal) = round.half_of refusal

abbrev pub place_of : ReaderRefusal → ℕ
place_of FrameNotTaken = 0
place_of BlockLength = 0
place_of (Take refusal) = round.place_of refusal

abbrev pub report_of : ReaderRefusal → Report
report_of r = record { number = number_of r; half = half_of r; place = place_of r }

-- octets that are no block
abbrev pub of_block : BlockRefusal → ReaderRefusal
of_block WrongLength = BlockLength
