-- What is reported of a refusal: its number, and the half and the place that it is about, 0 where it is about none.
use Rattle.std.specs.Prelude.{ℕ}
use Rattle.reports.specs.declared.report.Report.{Report}

abbrev pub number_alone : ℕ → Report
number_alone n = record { number = n; half = 0; place = 0 }

abbrev pub in_half : ℕ → ℕ → Report
in_half n half = record { number = n; half = half; place = 0 }

abbrev pub at_place : ℕ → ℕ → Report
at_place n place = record { number = n; half = 0; place = place }

abbrev pub in_half_at_place : ℕ → ℕ → ℕ → Report
in_half_at_place n half place = record { number = n; half = half; place = place }
