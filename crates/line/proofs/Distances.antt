-- What one changed place does to the distance of words.
use Rattle.std.proofs.Common.{ℕ, zero, suc, ◌+◌, ◌≤◌, List, [], ◌∷◌, set, arith, length-set}
use Rattle.std.proofs.lemmas.Bool.Decides.{nat_tests}
use Rattle.coding.specs.Distance.{distance}

-- one place is written
pub distance_set : (xs ys : List ℕ) (i v : ℕ) → distance (set xs i v) ys ≤ distance xs ys + 1
unfolding distance
distance_set [] ys i v = omega arith
distance_set (x ∷ xs) [] zero v = omega arith
distance_set (x ∷ xs) [] (suc i) v = omega (arith, length-set xs i v)
distance_set (x ∷ xs) (y ∷ ys) zero v = grind (arith, nat_tests)
distance_set (x ∷ xs) (y ∷ ys) (suc i) v = omega (arith, distance_set xs ys i v)
