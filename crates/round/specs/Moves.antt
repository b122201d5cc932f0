-- What the calls inside the reader answer. No public contract cites it.
use Rattle.std.specs.Prelude.{Ok, Err, Result}
use Rattle.round.specs.Rounds.{Reading, Outcome, refusing}
use Rattle.round.specs.Views.{answer_of, reading_of}
use Rattle.round.specs.declared.refusal.TakeRefusal.{TakeRefusal}
use Rattle.round.specs.declared.state.Answer as code
use Rattle.round.specs.declared.state.RoundReader.{RoundReader}

-- what an accepted take leads to, the reader after it and the answer, or the refusal of another
abbrev pub concluded : Reading → Result (RoundReader × code.Answer) TakeRefusal → Outcome
concluded r (Ok m) = record { answer = Ok (answer_of m.1); after = reading_of m.0 }
concluded r (Err e) = refusing r e
