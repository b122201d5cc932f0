-- The lines that carry frames.
use Rattle.line.specs.Line.{Model}
use Rattle.line.specs.Stages.{scrambling, repetition, differential, cascade}

-- the standard's line: scrambling over repetition over differential coding
abbrev pub standard : Model
standard = cascade scrambling (cascade repetition differential)

-- the bench's line has no differential coding
abbrev pub bench : Model
bench = cascade scrambling repetition
