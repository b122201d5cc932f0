-- The unfinished sets: a telephone's is IDs 3 to 5, a message's 6 to 12.
use Rattle.std.specs.Prelude.{ℕ, ◌-◌, Bool, cond, ◌&&◌, ◌||◌, nat_le}

-- an ID after which its set is unfinished
abbrev pub leaves_unfinished : ℕ → Bool
leaves_unfinished id = (nat_le 3 id && nat_le id 4) || (nat_le 6 id && nat_le id 11)

-- how many words of its set have come with this ID
abbrev pub words_by : ℕ → ℕ
words_by id = cond (nat_le id 4) (id - 2) (id - 5)
