-- The two lines.
use Rattle.std.proofs.Common.{refl, arith}
use Rattle.line.specs.Line.{LineRules}
use Rattle.line.specs.Stages.{cascade, scrambling, repetition, differential}
use Rattle.line.specs.Lines.{standard, bench}
use Rattle.line.proofs.CascadeRules.{cascade_rules}
use Rattle.line.proofs.DifferentialRules.{differential_rules}
use Rattle.line.proofs.RepetitionRules.{repetition_rules}
use Rattle.line.proofs.ScramblingRules.{scrambling_rules}
use Rattle.carrier.proofs.Whole.{guarantee}
use Rattle.carrier_laws.specs.Bounds.{WithinBound}

rules_of_standard : LineRules standard
rules_of_standard =
    cascade_rules scrambling (cascade repetition differential) scrambling_rules
    (cascade_rules repetition differential repetition_rules differential_rules)

rules_of_bench : LineRules bench
rules_of_bench = cascade_rules scrambling repetition scrambling_rules repetition_rules

pub within_bound : WithinBound
within_bound = record {
  standard_within = λ k h. omega arith;
  bench_within = λ k h. omega arith;
  standard_rules = rules_of_standard;
  standard_takes = refl;
  standard_holds = guarantee standard rules_of_standard refl;
  bench_rules = rules_of_bench;
  bench_takes = refl;
  bench_holds = guarantee bench rules_of_bench refl;
}
