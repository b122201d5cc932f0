-- The entries of a sequence as the code holds it.
use Rattle.std.specs.Prelude.{ℕ, ◌/◌, List, take}
use Rattle.content.specs.declared.entry.Content.{Content}
use Rattle.content.specs.declared.entry.Sequence.{Sequence}

abbrev pub entries_of : Sequence → List Content
entries_of s = take s.len s.entries

-- two entries to a frame
abbrev pub frames_of : Sequence → ℕ
frames_of s = s.len / 2
