-- Elimination, column by column: the words of the inner contracts.
use Rattle.std.specs.Prelude.{◌≡◌, ℕ, ◌-◌, ◌%◌, ◌<◌, List, [], length, Option, MatchOption, bit_xor, slice_index, slice_index_or, slice_range}
use Rattle.field.specs.Field.{mul}
use Rattle.solver.specs.Linear.{side_from}

-- the column is zero in each equation
abbrev pub Clear : List (List ℕ) → ℕ → Type 0
Clear rows col = (i : ℕ) → i < length rows → slice_index (slice_index_or rows i []) col % 128 ≡ 0

-- ys solve what is left of the equations from the column on
abbrev pub SolveFrom : ℕ → List (List ℕ) → List ℕ → Type 0
SolveFrom col rows ys = (i : ℕ) → i < length rows → side_from col (slice_index_or rows i []) ys ≡ 0

-- What solving the equations from the column col to the constant at v answers: values in GF(128) that solve them, or nothing
-- where none do.
abbrev pub Solved : ℕ → ℕ → List (List ℕ) → Option (List ℕ) → Type 0
Solved col v rows answer =
    MatchOption answer ((ys : List ℕ) → length ys ≡ v - col → SolveFrom col rows ys → ⊥)
    (λ xs. (length xs ≡ 6) × SolveFrom col rows (slice_range xs col v) × ((k : ℕ) → slice_index xs k < 128))

-- a·row + b·other
abbrev pub Combined : ℕ → List ℕ → ℕ → List ℕ → List ℕ → Type 0
Combined a row b other new = (k : ℕ) → k < 7 → slice_index new k ≡ bit_xor (mul a (slice_index row k)) (mul b (slice_index other k))

-- each equation is made of the old one and the pivot so that the column goes
abbrev pub Eliminated : ℕ → List ℕ → List (List ℕ) → List (List ℕ) → Type 0
Eliminated col pivot rows new =
    (i : ℕ) → i < length rows → Combined (slice_index pivot col) (slice_index_or rows i []) (slice_index (slice_index_or rows i []) col) pivot (slice_index_or new i [])
