-- The mark by which a line is chosen.
use Rattle.std.specs.Prelude.{ℕ, cond, Some, None, Option, ◌==◌}
use Rattle.line.specs.Line.{Model}
use Rattle.line.specs.Lines.{standard, bench}
use Rattle.lines.specs.declared.lines.MarkedLine.{MarkedLine}
use Rattle.lines.specs.declared.lines.MarkedLine.TheVariants.{Standard, Bench}

-- the line that a mark chose
abbrev pub marked : MarkedLine → Model
marked Standard = standard
marked Bench = bench

-- mark 1 is the standard's line, mark 2 the bench's
abbrev pub chosen : ℕ → Option MarkedLine
chosen mark = cond (mark == 1) (Some Standard) (cond (mark == 2) (Some Bench) None)
