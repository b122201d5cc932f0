-- The distance of two words.
use Rattle.std.proofs.Common.{◌≡◌, ℕ, suc, ◌+◌, ◌≤◌, Bool, true, false, cond, eqb, List, [], ◌∷◌, ◌++◌, length, sym, refl, ◌∙◌, ap₂, arith}
use Rattle.std.proofs.lemmas.Bool.{eq-eqb, ne_eqb, eqb-true, both_ways}
use Rattle.coding.specs.Distance.{distance}

pub distance_none : (ys : List ℕ) → distance [] ys ≡ length ys
unfolding distance
distance_none ys = refl

pub distance_cons : (x y : ℕ) (xs ys : List ℕ) → distance (x ∷ xs) (y ∷ ys) ≡ cond (eqb x y) 0 1 + distance xs ys
unfolding distance
distance_cons x y xs ys = refl

pub distance_same : (b : ℕ) (u v : List ℕ) → distance (b ∷ u) (b ∷ v) ≡ distance u v
unfolding distance
distance_same b u v = rw (eq-eqb b b refl) (omega arith)

pub distance_other : (a b : ℕ) (u v : List ℕ) → (a ≡ b → ⊥) → distance (a ∷ u) (b ∷ v) ≡ suc (distance u v)
unfolding distance
distance_other a b u v n = rw (ne_eqb a b n) (omega arith)

-- a place more is at most one difference more
pub distance_step : (a b : ℕ) (u v : List ℕ) → distance (a ∷ u) (b ∷ v) ≤ suc (distance u v)
unfolding distance
distance_step a b u v = by (eqb a b)
  where
    by : (t : Bool) → cond t 0 1 + distance u v ≤ suc (distance u v)
    by true = omega arith
    by false = omega arith

pub distance_self : (u : List ℕ) → distance u u ≡ 0
unfolding distance
distance_self [] = refl
distance_self (x ∷ u) = distance_same x u u ∙ distance_self u

-- words that differ nowhere are equal
pub distance_zero : (u v : List ℕ) → distance u v ≡ 0 → u ≡ v
unfolding distance
distance_zero [] [] e = refl
distance_zero [] (y ∷ v) e = absurd (omega arith)
distance_zero (x ∷ u) [] e = absurd (omega arith)
distance_zero (x ∷ u) (y ∷ v) e = by (eqb x y) refl e (λ d. distance_zero u v d)
  where
    by : (t : Bool) → eqb x y ≡ t → cond t 0 1 + distance u v ≡ 0 → (distance u v ≡ 0 → u ≡ v) → x ∷ u ≡ y ∷ v
    by true q z k = ap₂ (λ (b : ℕ) (bs : List ℕ). b ∷ bs) (eqb-true x y q) (k (omega arith))
    by false q z k = absurd (omega arith)

-- words one after the other
pub distance_append : (a b c d : List ℕ) → length a ≡ length c → distance (a ++ b) (c ++ d) ≡ distance a c + distance b d
unfolding distance
distance_append [] b [] d e = omega arith
distance_append [] b (y ∷ c) d e = absurd (omega arith)
distance_append (x ∷ a) b [] d e = absurd (omega arith)
distance_append (x ∷ a) b (y ∷ c) d e = omega (arith, distance_append a b c d (omega arith))

-- the triangle inequality, over words of one length
pub distance_triangle : (r u v : List ℕ) → length r ≡ length u → length r ≡ length v → distance u v ≤ distance r u + distance r v
unfolding distance
distance_triangle [] [] v e f = omega arith
distance_triangle [] (y ∷ u) v e f = absurd (omega arith)
distance_triangle (x ∷ r) [] v e f = absurd (omega arith)
distance_triangle (x ∷ r) (y ∷ u) [] e f = absurd (omega arith)
distance_triangle (x ∷ r) (y ∷ u) (z ∷ v) e f =
    by (eqb y z) (eqb x y) (eqb x z) refl refl refl (distance_triangle r u v (omega arith) (omega arith))
  where
    by : (a b c : Bool) → eqb y z ≡ a → eqb x y ≡ b → eqb x z ≡ c → distance u v ≤ distance r u + distance r v
        → cond a 0 1 + distance u v ≤ (cond b 0 1 + distance r u) + (cond c 0 1 + distance r v)
    by true true true p q s h = omega arith
    by true true false p q s h = omega arith
    by true false true p q s h = omega arith
    by true false false p q s h = omega arith
    by false true true p q s h = absurd (both_ways (eqb y z) p (eq-eqb y z (sym (eqb-true x y q) ∙ eqb-true x z s)))
    by false true false p q s h = omega arith
    by false false true p q s h = omega arith
    by false false false p q s h = omega arith
