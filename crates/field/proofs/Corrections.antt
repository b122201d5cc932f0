-- The errors of a received word are the roots of every solution of the key equations.
use Rattle.std.proofs.Common.{◌≡◌, ℕ, zero, suc, ◌+◌, ◌-◌, ◌<◌, ◌≤◌, Bool, true, false, cond, eqb, ◌⊎◌, List, [], ◌∷◌, map, length, sym, refl, ap, ◌∙◌, ap₂, inl, inr, ⊎_elim, arith}
use lib.ListN.{length-map}
use lib.Bits.{bit_xor, xor_zero_r}
use Rattle.std.proofs.lemmas.Bool.{eqb-true, eqb-false, eq-eqb, cond-true, cond-false, cases_Bool, cases_eq}
use Rattle.coding.specs.Bits.{are_bits}
use Rattle.coding.specs.Distance.{distance}
use Rattle.coding.proofs.Words.{bits_parts}
use Rattle.field.specs.Field.{mul, exp, value}
use Rattle.field.specs.Locator.{syndrome, recurrence, KeyEquations, is_root, flipped, Received, LocatorLaws}
use Rattle.field.proofs.Elements.{exp_small}
use Rattle.field.proofs.PowerSums.{Each, Nonzero, each_map, power_sum}
use Rattle.field.proofs.Roots.{roots}
use Rattle.field.proofs.Differences.{differences, distance_differences, value_differences, place_sum_power_sum, differences_below}
use Rattle.field.proofs.Differences.{differences_distinct, distinct_exp, nonzero_exp, word_length, word_bits}
use Rattle.field.proofs.Locators.{locates, locator, few_roots}

-- ---- flipping at the differences makes one word of the other
abbrev Among : ℕ → List ℕ → Type 0
Among p [] = ⊥
Among p (x ∷ xs) = (p ≡ x) ⊎ Among p xs

among_or_not : (p : ℕ) (xs : List ℕ) → Among p xs ⊎ Each (λ x. p ≡ x → ⊥) xs
among_or_not p [] = inr tt
among_or_not p (x ∷ xs) = here (cases_eq p x) (among_or_not p xs)
  where
    here : (p ≡ x) ⊎ (p ≡ x → ⊥) → Among p xs ⊎ Each (λ y. p ≡ y → ⊥) xs → Among p (x ∷ xs) ⊎ Each (λ y. p ≡ y → ⊥) (x ∷ xs)
    here (inl e) r = inl (inl e)
    here (inr n) (inl m) = inl (inr m)
    here (inr n) (inr m) = inr (n, m)

among_below : (p n : ℕ) (xs : List ℕ) → Each (λ q. q < n) xs → Among p xs → p < n
among_below p n [] h m = absurd m
among_below p n (x ∷ xs) h m = ⊎_elim (λ e. let k : x < n = h.0 in omega arith) (λ k. among_below p n xs h.1 k) m

module _ (f : ℕ → Bool) where
  flipped_differences : (us vs : List ℕ) → are_bits us ≡ true → are_bits vs ≡ true → length us ≡ length vs
      → Each (λ p. f p ≡ true) (differences us vs) → ((p : ℕ) → p < length us → f p ≡ true → Among p (differences us vs))
      → flipped f us ≡ vs
  unfolding flipped differences
  flipped_differences [] [] hu hv e h k = refl
  flipped_differences [] (v ∷ vs) hu hv e h k = absurd (omega arith)
  flipped_differences (u ∷ us) [] hu hv e h k = absurd (omega arith)
  flipped_differences (u ∷ us) (v ∷ vs) hu hv e h k =
      let pu = bits_parts u us hu in
      let pv = bits_parts v vs hv in
      by (eqb u v) refl pu.0 pv.0 h (k (length us) (omega arith)) (λ p l. k p (omega arith))
      (λ h' k'. flipped_differences us vs pu.1 pv.1 (omega arith) h' k')
    where
      n : ℕ
      n = length us

      ds : List ℕ
      ds = differences us vs

      by : (t : Bool) → eqb u v ≡ t → u < 2 → v < 2 → Each (λ p. f p ≡ true) (cond t ds (n ∷ ds))
          → (f n ≡ true → Among n (cond t ds (n ∷ ds)))
          → ((p : ℕ) → p < n → f p ≡ true → Among p (cond t ds (n ∷ ds)))
          → (Each (λ p. f p ≡ true) ds → ((p : ℕ) → p < n → f p ≡ true → Among p ds) → flipped f us ≡ vs)
          → cond (f n) (1 - u) u ∷ flipped f us ≡ v ∷ vs
      by true q hu hv h here below rest =
          let off : f n ≡ false =
          ⊎_elim (λ t. let l : n < n = among_below n n ds (differences_below us vs) (here t) in absurd (omega arith)) (λ o. o)
          (cases_Bool (f n))
          in
          ap₂ (λ (x : ℕ) (xs : List ℕ). x ∷ xs) (cond-false (f n) (1 - u) u off ∙ eqb-true u v q) (rest h below)
      by false q hu hv h here below rest =
          let d : u ≡ v → ⊥ = eqb-false u v q in
          let o : 1 - u ≡ v = omega arith in
          ap₂ (λ (x : ℕ) (xs : List ℕ). x ∷ xs) (cond-true (f n) (1 - u) u h.0 ∙ o)
          (rest h.1 (λ p l t. ⊎_elim (λ z. absurd (omega arith)) (λ m. m) (below p l t)))

-- ---- the syndromes are the power sums of the errors
recurrence_same : (s t : ℕ → ℕ) (n : ℕ) (ls : List ℕ) → ((m : ℕ) → n ≤ m → m < n + length ls → s m ≡ t m)
    → recurrence s n ls ≡ recurrence t n ls
unfolding recurrence
recurrence_same s t n [] h = refl
recurrence_same s t n (l ∷ ls) h =
    ap₂ bit_xor (ap (mul l) (h (n + length ls) (omega arith) (omega arith))) (recurrence_same s t n ls (λ m a b. h m a (omega arith)))

module _ (r w : List ℕ) (c : Received r w) where
  -- received word and codeword are as long
  as_long : length r ≡ length w
  as_long = c.long ∙ sym (word_length w c.code)

  count : distance r w ≡ length (differences r w)
  count = distance_differences r w as_long

  syndrome_sum : (i : ℕ) → i < 12 → syndrome r (suc i) ≡ power_sum (λ x. 1) (map exp (differences r w)) (suc i)
  unfolding syndrome
  syndrome_sum i h =
      sym (xor_zero_r (value (exp (suc i)) r)) ∙ ap (bit_xor (value (exp (suc i)) r)) (sym (roots w c.code i h))
      ∙ value_differences (exp (suc i)) r w c.bit (word_bits w c.code) as_long
      ∙ place_sum_power_sum (suc i) (differences r w)

  syndrome_recurrence : (i : ℕ) (ls : List ℕ) → i + length ls < 13
      → recurrence (syndrome r) (suc i) ls ≡ recurrence (power_sum (λ x. 1) (map exp (differences r w))) (suc i) ls
  syndrome_recurrence i ls h =
      recurrence_same (syndrome r) (power_sum (λ x. 1) (map exp (differences r w))) (suc i) ls (λ m a b. at m a b)
    where
      at : (m : ℕ) → suc i ≤ m → m < suc i + length ls → syndrome r m ≡ power_sum (λ x. 1) (map exp (differences r w)) m
      at zero a b = absurd (omega arith)
      at (suc m) a b = syndrome_sum m (omega arith)

  pub solvable : (ls : List ℕ) × KeyEquations r (distance r w) ls
  solvable =
      let l = locator (map exp (differences r w)) in
      let d : length l.0 ≡ distance r w = l.1 ∙ length-map (differences r w) exp ∙ sym count in
      (l.0, record { degree = d; equations = λ i h. syndrome_recurrence i (1 ∷ l.0) (omega (arith, c.near)) ∙ l.2 (suc i) })

  module _ (ls : List ℕ) (key : KeyEquations r (distance r w) ls) where
    below127 : Each (λ p. p < 127) (differences r w)
    below127 = each_map (λ p. p < length r) (λ p. p < 127) (differences r w) (λ p h. omega (arith, c.long)) (differences_below r w)

    -- each error is a root
    all_roots : Each (λ x. value x (1 ∷ ls) ≡ 0) (map exp (differences r w))
    all_roots =
        locates (map exp (differences r w)) (distinct_exp (differences r w) below127 (differences_distinct r w))
        (nonzero_exp (differences r w)) (1 ∷ ls)
        (λ i h.
        let k : i < distance r w = omega (arith, length-map (differences r w) exp, count) in
        sym (syndrome_recurrence i (1 ∷ ls) (omega (arith, key.degree, c.near))) ∙ key.equations i k)

    -- and there is no other: the errors are already as many as the degree
    only_roots : (p : ℕ) → p < 127 → value (exp p) (1 ∷ ls) ≡ 0 → Among p (differences r w)
    only_roots p h e =
        ⊎_elim (λ m. m)
        (λ n. absurd
        (let k : length (exp p ∷ map exp (differences r w)) ≤ length ls =
        few_roots (exp p ∷ map exp (differences r w)) (distinct_exp (p ∷ differences r w) (h, below127) (n, differences_distinct r w))
        (exp_small p, each_map Nonzero (λ x. x < 128) (map exp (differences r w)) (λ x u. u.small) (nonzero_exp (differences r w)))
        ls (e, all_roots)
        in
        omega (arith, key.degree, length-map (differences r w) exp, count)))
        (among_or_not p (differences r w))

    pub corrects : flipped (is_root ls) r ≡ w
    unfolding is_root
    corrects =
        flipped_differences (is_root ls) r w c.bit (word_bits w c.code) as_long
        (each_map (λ p. value (exp p) (1 ∷ ls) ≡ 0) (λ p. is_root ls p ≡ true) (differences r w) (λ p e. eq-eqb (value (exp p) (1 ∷ ls)) 0 e)
        (un_map (λ x. value x (1 ∷ ls) ≡ 0) (differences r w) all_roots))
        (λ p l t. only_roots p (omega (arith, c.long)) (eqb-true (value (exp p) (1 ∷ ls)) 0 t))
      where
        un_map : (P : ℕ → Type 0) (ps : List ℕ) → Each P (map exp ps) → Each (λ p. P (exp p)) ps
        un_map P [] h = tt
        un_map P (p ∷ ps) h = (h.0, un_map P ps h.1)

pub locator_laws : LocatorLaws
locator_laws = record { solvable = solvable; corrects = corrects }
