-- One line bit more of a take.
use Rattle.std.specs.Prelude.{◌≡◌, ℕ, ◌+◌, ◌<◌, List, [], ◌∷◌, ◌++◌, length}

-- the take is not whole with the bit, which is heard with those before
pub record Counted (before : List ℕ) (size bit : ℕ) (after : List ℕ) : Type 0 where
  pub short : length before + 1 < size
  pub heard : after ≡ before ++ (bit ∷ [])

-- the take is whole with the bit, and of the next none is heard
pub record Completed (before : List ℕ) (size bit : ℕ) (take after : List ℕ) : Type 0 where
  pub long : length before + 1 ≡ size
  pub heard : take ≡ before ++ (bit ∷ [])
  pub fresh : after ≡ []
