use Rattle.std.proofs.Common.{sym, ◌∙◌}
use Rattle.card.specs.Fields.{is_latitude}
use Rattle.content.proofs.TakingApart.{coordinate_apart, kinds}
use Rattle.content.proofs.coordinates.latitude_of.Goals as goal

pub returns : goal.returns
returns c = record { value = c.coordinate.ensures ∙ sym (coordinate_apart is_latitude 4 c.args.word); rule = kinds.latitude }
