-- How a number of up to so many groups is read. Only private contracts say this.
use Rattle.std.specs.Prelude.{ℕ, zero, suc, ◌+◌, ◌-◌, ◌*◌, cond, ◌==◌, nat_lt, List, [], ◌∷◌, Some, None, Option}
use Rattle.std.specs.Option.{option_and_then}
use Rattle.reel.specs.declared.number.Number.{Number}

-- a group before a higher number, which is not 0 where the group is not needless
abbrev pub above : ℕ → Number → Option Number
above o n = cond (n.value == 0) None (Some (record { value = o - 128 + 128 * n.value; len = 1 + n.len }))

-- the number in at most so many groups that octets begin with, read group by group
unfoldable pub shortest_at_front : ℕ → List ℕ → Option Number
shortest_at_front zero os = None
shortest_at_front (suc n) [] = None
shortest_at_front (suc n) (o ∷ os) = cond (nat_lt o 128) (Some (record { value = o; len = 1 })) (option_and_then (above o) (shortest_at_front n os))
