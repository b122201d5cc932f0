-- The number, the half and the place of the refusal of a block. 0 stands where one has no meaning.
use Rattle.std.specs.Prelude.{ℕ}
use Rattle.reports.specs.declared.report.Report.{Report}
use Rattle.chips.specs.declared.refusal.BlockRefusal.{BlockRefusal}
use Rattle.chips.specs.declared.refusal.BlockRefusal.TheVariants.{WrongLength}

abbrev pub number_of : BlockRefusal → ℕ
number_of WrongLength = 15

abbrev pub half_of : BlockRefusal → ℕ
half_of r = 0

abbrev pub place_of : BlockRefusal → ℕ
place_of r = 0

abbrev pub report_of : BlockRefusal → Report
report_of r = record { number = number_of r; half = half_of r; place = place_of r }
