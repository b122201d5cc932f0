-- Making a reader, and one line bit more.
use Rattle.std.proofs.Common.{◌≡◌, ℕ, ◌<◌, ◌≤◌, Some, None, Ok, Err, arith}
use Rattle.line.specs.Line.{Model, LineRules}
use Rattle.line.specs.Calls.{length_of}
use Rattle.line.proofs.Answers.{length_some}
use Rattle.line.proofs.EveryLine.{some_line_bit}
use Rattle.sender.proofs.Making.{not_taken}
use Rattle.carrier.specs.declared.refusal.ReaderRefusal.TheVariants.{FrameNotTaken}
use Rattle.carrier.specs.Receiving.{fresh_of, started}

module _ (m : Model) where
  pub refused_line : None ≡ length_of m 244 → Err FrameNotTaken ≡ started m
  unfolding started
  refused_line e = rw (not_taken m 244 e)

  module _ (size : ℕ) (some : Some size ≡ length_of m 244) where
    pub made : Ok (fresh_of size) ≡ started m
    unfolding started
    made = rw ((length_some m 244 size some).0, (length_some m 244 size some).1)

    pub some_bit : LineRules m → 0 < size
    some_bit rules = let p = some_line_bit m rules 244 (length_some m 244 size some).0 (omega arith) in omega (arith, (length_some m 244 size some).1)

    pub room : LineRules m → size ≤ 4096
    room rules = let p = rules.short 244 (length_some m 244 size some).0 in omega (arith, (length_some m 244 size some).1)
