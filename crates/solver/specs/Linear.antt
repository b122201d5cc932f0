-- Linear equations over GF(128). An equation a_1·y_1 + .. + a_v·y_v + b = 0 is the list of its coefficients and then its
-- constant; what stands behind that does not matter. A number from 128 on stands for its remainder by 128.
use Rattle.std.specs.Prelude.{◌≡◌, ℕ, suc, ◌%◌, ◌<◌, List, [], ◌∷◌, length, bit_xor, slice_index, slice_index_or}
use Rattle.field.specs.Field.{mul}

-- the left side of an equation from the column col on, ys being the values of the unknowns there
unfoldable pub side_from : ℕ → List ℕ → List ℕ → ℕ
side_from col row [] = slice_index row col % 128
side_from col row (y ∷ ys) = bit_xor (mul (slice_index row col) y) (side_from (suc col) row ys)

-- the left side of an equation at the values ys
abbrev pub side : List ℕ → List ℕ → ℕ
side row ys = side_from 0 row ys

-- ys solve each of the equations
abbrev pub Solve : List (List ℕ) → List ℕ → Type 0
Solve rows ys = (i : ℕ) → i < length rows → side (slice_index_or rows i []) ys ≡ 0
