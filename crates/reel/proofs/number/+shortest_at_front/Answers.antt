use Rattle.std.proofs.Common.{arith}
use Rattle.reel.proofs.Bounds.{one_group, group_above}
use Rattle.reel.proofs.number.+shortest_at_front.Goals as goal

pub returns-then-group-lt128-clause-small : goal.returns-then-group-lt128-clause-small
returns-then-group-lt128-clause-small t c =
    one_group c.from.result c.args.groups (omega (arith, c.if-groups-eq0.false)) c.requires (omega (arith, c.from.ensures, c.if-group-lt128.true))

pub returns-clause-small : goal.returns-clause-small
returns-clause-small t c =
    group_above c.from-2.result c.in_ok-higher.higher.value c.args.groups (omega (arith, c.if-groups-eq0.false)) c.requires
    (omega (arith, c.from-2.ensures, c.type_inv.octets 0)) c.in_ok-higher.ensures.small
