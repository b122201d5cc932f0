-- The number, the half and the place of each refusal of a received frame. 0 stands where one has no meaning.
use Rattle.std.specs.Prelude.{ℕ}
use Rattle.reports.specs.declared.report.Report.{Report}
use Rattle.frame.specs.declared.refusal.FrameRefusal.{FrameRefusal}
use Rattle.frame.specs.declared.refusal.FrameRefusal.TheVariants.{UniqueWord, Codeword, Crc}

abbrev pub number_of : FrameRefusal → ℕ
number_of UniqueWord = 16
number_of (Codeword half) = 17
number_of (Crc half) = 18

abbrev pub half_of : FrameRefusal → ℕ
half_of UniqueWord = 0
half_of (Codeword half) = half
half_of (Crc half) = half

abbrev pub place_of : FrameRefusal → ℕ
place_of r = 0

abbrev pub report_of : FrameRefusal → Report
report_of r = record { number = number_of r; half = half_of r; place = place_of r }
