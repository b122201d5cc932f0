use Rattle.std.proofs.Common.{sym, ◌∙◌}
use Rattle.card.specs.Fields.{is_longitude}
use Rattle.content.proofs.TakingApart.{coordinate_apart, kinds}
use Rattle.content.proofs.coordinates.longitude_of.Goals as goal

pub returns : goal.returns
returns c = record { value = c.coordinate.ensures ∙ sym (coordinate_apart is_longitude 3 c.args.word); rule = kinds.longitude }
