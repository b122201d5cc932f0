use Rattle.std.proofs.Common.{length, ap, ◌∙◌}
use Rattle.coding.specs.Bits.{are_bits}
use Rattle.coding.proofs.Groups.{group_bits_bits, length_group_bits}
use Rattle.content.proofs.groups.regroup.Goals as goal

pub read_groups-requires : goal.read_groups-requires
read_groups-requires c =
    let long = ap length c.write_groups.ensures ∙ length_group_bits c.args.width c.args.from.now in
    (long ∙ c.requires.0, (c.requires.1.1, ap are_bits c.write_groups.ensures ∙ group_bits_bits c.args.width c.args.from.now))
