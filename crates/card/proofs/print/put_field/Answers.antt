use Rattle.std.proofs.Common.{ap, append_assoc}
use Rattle.std.specs.Option.{option_map}
use Rattle.buffers.specs.Buffer.{text_of}
use Rattle.buffers.proofs.Appending.{appended_appended}
use Rattle.card.proofs.print.put_field.Goals as goal
use Rattle.card.proofs.print.put_field.Goals.{in-Some, in_default}

pub returns : goal.returns
returns g c = elim c.match-text.branch [
  | in-Some w ↦ simp (c.push-2.ensures, w.page-is, w.extend-in-Some.ensures, w.push.ensures, c.extend.ensures, w.as_slice.ensures.value, ap (option_map text_of) w.in-Some.is, appended_appended, append_assoc)
  | in_default w ↦ simp (c.push-2.ensures, w.page-is, c.extend.ensures, ap (option_map text_of) w.in_default.is, appended_appended)
]
