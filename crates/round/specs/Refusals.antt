-- The number, the half and the place of each refusal of a take. 0 stands where one has no meaning; the place is a Content ID.
use Rattle.std.specs.Prelude.{ℕ}
use Rattle.reports.specs.declared.report.Report.{Report}
use Rattle.frame.specs.declared.refusal.FrameRefusal.{FrameRefusal}
use Rattle.frame.specs.declared.refusal.FrameRefusal.TheVariants as frame
use Rattle.round.specs.declared.refusal.TakeRefusal.{TakeRefusal}
use Rattle.round.specs.declared.refusal.TakeRefusal.TheVariants.{UniqueWord, Codeword, Crc, SameUniqueWord, Identifier, ContentId, NoValue, BrokenOff}

abbrev pub number_of : TakeRefusal → ℕ
number_of UniqueWord = 16
number_of (Codeword half) = 17
number_of (Crc half) = 18
number_of SameUniqueWord = 19
number_of Identifier = 20
number_of (ContentId half id) = 21
number_of (NoValue half id) = 22
number_of (BrokenOff half id) = 23

abbrev pub half_of : TakeRefusal → ℕ
half_of UniqueWord = 0
half_of (Codeword half) = half
half_of (Crc half) = half
half_of SameUniqueWord = 0
half_of Identifier = 0
half_of (ContentId half id) = half
half_of (NoValue half id) = half
half_of (BrokenOff half id) = half

abbrev pub place_of : TakeRefusal → ℕ
place_of UniqueWord = 0
place_of (Codeword half) = 0
place_of (Crc half) = 0
place_of SameUniqueWord = 0
place_of Identifier = 0
place_of (ContentId half id) = id
place_of (NoValue half id) = id
place_of (BrokenOff half id) = id

abbrev pub report_of : TakeRefusal → Report
report_of r = record { number = number_of r; half = half_of r; place = place_of r }

-- what is refused of a take as a frame
abbrev pub of_frame : FrameRefusal → TakeRefusal
of_frame frame.UniqueWord = UniqueWord
of_frame (frame.Codeword half) = Codeword half
of_frame (frame.Crc half) = Crc half
