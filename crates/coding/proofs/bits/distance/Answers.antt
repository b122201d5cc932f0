use Rattle.std.proofs.Common.{◌≡◌, ℕ, ◌+◌, ◌≤◌, ◌^◌, Bool, true, false, not, eqb, List, [], ◌∷◌, length, cond, sum_by, min, arith, rules, tests}
use Rattle.std.specs.Int.{abs_diff}
use Rattle.std.specs.List.{zip}
use Rattle.std.proofs.lemmas.List.Sums.{sum_by-cons}
use Rattle.std.proofs.lemmas.Iterator.{YieldsList-from_slice, YieldsList-from_zip, YieldsList-from_map}
use Rattle.std.proofs.lemmas.Iterator.Consumers.{sum_by_from_yields_List, fits_by_from_yields_list}
use Rattle.coding.specs.Distance.{distance}
use Rattle.coding.proofs.bits.distance.Goals as goal

-- 1 where a pair differs
abbrev differing : ℕ × ℕ → ℕ
differing p = cond (not (eqb p.0 p.1)) 1 0

-- at most one for each pair
few : (a b : List ℕ) → sum_by differing (zip a b) ≤ min (length a) (length b)
few [] b = omega arith
few (x ∷ a) [] = omega arith
few (x ∷ a) (y ∷ b) = by (eqb x y) (few a b) (sum_by-cons differing (x, y) (zip a b))
  where
    by : (t : Bool) → sum_by differing (zip a b) ≤ min (length a) (length b) → sum_by differing ((x, y) ∷ zip a b) ≡ cond (not t) 1 0 + sum_by differing (zip a b)
        → sum_by differing ((x, y) ∷ zip a b) ≤ min (length (x ∷ a)) (length (y ∷ b))
    by true h e = omega arith
    by false h e = omega arith

-- the pairs that differ, and the places that only one of the words has
pairs_differing : (a b : List ℕ) → sum_by differing (zip a b) + abs_diff (length a) (length b) ≡ distance a b
unfolding distance
pairs_differing [] b = omega arith
pairs_differing (x ∷ a) [] = omega arith
pairs_differing (x ∷ a) (y ∷ b) = by (eqb x y) (pairs_differing a b) (sum_by-cons differing (x, y) (zip a b))
  where
    by : (t : Bool) → sum_by differing (zip a b) + abs_diff (length a) (length b) ≡ distance a b → sum_by differing ((x, y) ∷ zip a b) ≡ cond (not t) 1 0 + sum_by differing (zip a b)
        → sum_by differing ((x, y) ∷ zip a b) + abs_diff (length (x ∷ a)) (length (y ∷ b)) ≡ cond t 0 1 + distance a b
    by true h e = omega arith
    by false h e = omega arith

pub sum-differing-requires-clause-fits : goal.sum-differing-requires-clause-fits
sum-differing-requires-clause-fits c =
    let a = c.args.a.now in
    let b = c.args.b.now in
    fits_by_from_yields_list differing (zip a b) c.map.result (2 ^ 64) (YieldsList-from_map _ differing (YieldsList-from_zip (YieldsList-from_slice a cc) (YieldsList-from_slice b cc)) c.map.ensures.closure (λ x r q k. search (rules, tests))) (omega (arith, few a b))

pub overflow_add-result : goal.overflow_add-result
overflow_add-result c =
    let a = c.args.a.now in
    let b = c.args.b.now in
    let counted = sum_by_from_yields_List differing (zip a b) c.map.result c.sum-differing.result c.sum-differing.ensures.ran (YieldsList-from_map _ differing (YieldsList-from_zip (YieldsList-from_slice a cc) (YieldsList-from_slice b cc)) c.map.ensures.closure (λ x r q k. search (rules, tests))) in
    omega (arith, counted, c.abs_diff.ensures, few a b)

pub returns : goal.returns
returns c =
    let a = c.args.a.now in
    let b = c.args.b.now in
    let counted = sum_by_from_yields_List differing (zip a b) c.map.result c.sum-differing.result c.sum-differing.ensures.ran (YieldsList-from_map _ differing (YieldsList-from_zip (YieldsList-from_slice a cc) (YieldsList-from_slice b cc)) c.map.ensures.closure (λ x r q k. search (rules, tests))) in
    omega (arith, counted, c.abs_diff.ensures, pairs_differing a b)
