-- A scan for the first number that fails a test.
use Rattle.std.proofs.Common.{◌≡◌, ℕ, ◌+◌, ◌<◌, ◌≤◌, Bool, true, false, cond, not, ltb, List, [], ◌∷◌, length, get_or, Some, None, Ok, Err, Option, Result, refl, arith}
use Rattle.std.specs.List.{position, position_or_len, prefix_len}
use Rattle.std.proofs.lemmas.List.Sums.{prefix_len_passes, prefix_len_stops}
use Rattle.card.specs.Card.{first_failing, unless}
use Rattle.card.specs.Fields.{each}
use Rattle.card.specs.declared.refusal.CardRefusal.{CardRefusal}

passed_before : (p : ℕ → Bool) (xs : List ℕ) → position_or_len (λ x. not (p x)) xs ≡ prefix_len p xs
passed_before p [] = refl
passed_before p (x ∷ xs) = grind (arith, passed_before p xs)

each_passed : (p : ℕ → Bool) (xs : List ℕ) → each p xs ≡ not (ltb (prefix_len p xs) (length xs))
unfolding each
each_passed p [] = refl
each_passed p (x ∷ xs) = grind (arith, each_passed p xs)

-- what is answered where the scan stops at an index, and where it comes to the end
abbrev pub stopped : (ℕ → CardRefusal) → Option ℕ → Result (Unit {0}) CardRefusal
stopped e None = Ok tt
stopped e (Some i) = Err (e (i + 1))

pub scanned : (e : ℕ → CardRefusal) (p : ℕ → Bool) (xs : List ℕ) → stopped e (position (λ x. not (p x)) xs) ≡ unless (e (first_failing p xs)) (each p xs)
scanned e p xs = grind (arith, passed_before p xs, each_passed p xs)

-- A scan that goes from number to number and stops with a refusal: the numbers before the place i pass.
module _ (e : ℕ → CardRefusal) (p : ℕ → Bool) (xs : List ℕ) (i : ℕ) (before : i ≤ prefix_len p xs) where
  pub one_more : i < length xs → p (get_or xs i 0) ≡ true → i + 1 ≤ prefix_len p xs
  one_more h t = grind (arith, prefix_len_stops p xs 0, before, h, t)

  pub refused_at : i < length xs → p (get_or xs i 0) ≡ false → Err (e (i + 1)) ≡ unless (e (first_failing p xs)) (each p xs)
  refused_at h t = grind (arith, each_passed p xs, prefix_len_passes p xs i 0, before, h, t)

  pub accepted_all : length xs ≤ i → Ok tt ≡ unless (e (first_failing p xs)) (each p xs)
  accepted_all h = grind (arith, each_passed p xs, before, h)

-- what an answer of two ways says of its test
pub test_held : {X Y : Type 0} (b : Bool) (x z : X) (e : Y) (r : Result X Y) → r ≡ cond b (Ok x) (Err e) → r ≡ Ok z → b ≡ true
test_held true x z e r p q = refl
test_held false x z e r p q = let k : ◌≡◌ {A = ℕ} 0 1 = cc in absurd (omega arith)

pub test_failed : {X Y : Type 0} (b : Bool) (x : X) (e f : Y) (r : Result X Y) → r ≡ cond b (Ok x) (Err e) → r ≡ Err f → (b ≡ false) × (e ≡ f)
test_failed true x e f r p q = let k : ◌≡◌ {A = ℕ} 0 1 = cc in absurd (omega arith)
test_failed false x e f r p q = (refl, cc)
