-- A number in groups of seven bits, lowest group first. An octet has one group; its high bit says that another follows.
use Rattle.std.specs.Prelude.{ℕ, ◌+◌, ◌*◌, ◌%◌, Bool, cond, not, ◌&&◌, ◌||◌, ◌==◌, nat_le, nat_lt, List, [], ◌∷◌, length, Some, None, Option}
use Rattle.std.specs.Option.{option_map, option_and_then}
use Rattle.reel.specs.declared.number.Number.{Number}

-- the octets up to the first whose high bit is not set, if there is one
unfoldable pub groups_at_front : List ℕ → Option (List ℕ)
groups_at_front [] = None
groups_at_front (o ∷ os) = cond (nat_lt o 128) (Some (o ∷ [])) (option_map (λ gs. o ∷ gs) (groups_at_front os))

-- what groups say
unfoldable pub value_of : List ℕ → ℕ
value_of [] = 0
value_of (g ∷ gs) = g % 128 + 128 * value_of gs

-- what the last group says
unfoldable pub last_group : List ℕ → ℕ
last_group [] = 0
last_group (g ∷ []) = g % 128
last_group (g ∷ h ∷ gs) = last_group (h ∷ gs)

-- no group is needless: one of zeros does not stand behind others
abbrev pub is_shortest : List ℕ → Bool
is_shortest gs = nat_le (length gs) 1 || not (last_group gs == 0)

abbrev pub number_of_groups : ℕ → List ℕ → Option Number
number_of_groups most gs = cond (is_shortest gs && nat_le (value_of gs) most) (Some (record { value = value_of gs; len = length gs })) None

-- the number that octets begin with, up to a limit
abbrev pub number_at_front : ℕ → List ℕ → Option Number
number_at_front most os = option_and_then (number_of_groups most) (groups_at_front os)
