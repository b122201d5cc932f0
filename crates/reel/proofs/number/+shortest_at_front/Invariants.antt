use Rattle.reel.proofs.number.+shortest_at_front.Given as goal

abbrev pub decreases-shortest_at_front : goal.decreases-shortest_at_front
decreases-shortest_at_front l = l.groups
