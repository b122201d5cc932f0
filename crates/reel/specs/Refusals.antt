-- The number, the half and the place of what is refused of a reel. 0 stands where one has no meaning.
use Rattle.std.specs.Prelude.{ℕ}
use Rattle.reports.specs.declared.report.Report.{Report}
use Rattle.reel.specs.declared.refusal.ReelRefusal.{ReelRefusal}
use Rattle.reel.specs.declared.refusal.ReelRefusal.TheVariants.{Number, Unknown}

abbrev pub number_of : ReelRefusal → ℕ
number_of Number = 24
number_of Unknown = 25

abbrev pub half_of : ReelRefusal → ℕ
half_of r = 0

abbrev pub place_of : ReelRefusal → ℕ
place_of r = 0

abbrev pub report_of : ReelRefusal → Report
report_of r = record { number = number_of r; half = half_of r; place = place_of r }
