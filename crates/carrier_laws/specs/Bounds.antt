-- The two lines: the guarantee of two rounds holds on them, and how many lost spread bits in each take are within its bound.
use Rattle.std.specs.Prelude.{◌≡◌, ℕ, ◌≤◌, true}
use Rattle.line.specs.Line.{LineRules}
use Rattle.line.specs.Lines.{standard, bench}
use Rattle.carrier.specs.Guarantee.{Holds}

pub record WithinBound : Type 0 where
  -- six on the standard's line, thirteen on the bench's
  pub standard_within : (k : ℕ) → k ≤ 6 → standard.growth k ≤ 6
  pub bench_within : (k : ℕ) → k ≤ 13 → bench.growth k ≤ 6
  -- both keep the rules and take frames
  pub standard_rules : LineRules standard
  pub standard_takes : standard.takes 244 ≡ true
  pub standard_holds : Holds standard
  pub bench_rules : LineRules bench
  pub bench_takes : bench.takes 244 ≡ true
  pub bench_holds : Holds bench
