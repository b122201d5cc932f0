-- The key equations as linear equations, and what their solution does to the received word.
use Rattle.std.proofs.Common.{◌≡◌, ℕ, suc, ◌+◌, ◌-◌, ◌%◌, ◌<◌, ◌≤◌, min, Bool, true, cond, eqb, List, [], ◌∷◌, length, get_or, take, drop, set, sym, refl, ap, ◌∙◌, subst, ap₂, ⊎_elim, add-zero, add-suc, mod-eq_of_lt, suc-add, eq-or-lt_of_le, arith, length-drop, length-take, get_or-set_other, get_or-set_same}
use lib.Bits.{bit_xor, xor_assoc, xor_comm}
use Rattle.std.proofs.lemmas.Bool.{cases_lt}
use Rattle.std.proofs.lemmas.List.{drop_all}
use Rattle.coding.specs.Bits.{are_bits}
use Rattle.coding.specs.Distance.{distance}
use Rattle.field.specs.Field.{by_c, mul, exp, value}
use Rattle.field.specs.Locator.{syndrome, recurrence, KeyEquations, is_root, flipped, Received}
use Rattle.field.proofs.Elements.{comm, one_mul, zero_l, exp_small, exp_next, exp_nought}
use Rattle.field.proofs.Locators.{value_small}
use Rattle.field.proofs.Corrections.{solvable, corrects}
use Rattle.solver.specs.Linear.{side_from, side, Solve}
use Rattle.bch.specs.Nearest.{Near}
use Rattle.bch.specs.Search.{leftover, Syndromes, Equation}
use Rattle.bch.proofs.Codewords.{down, down_set}
use Rattle.bch.proofs.Remainders.{syndrome_leftover}

-- ---- an equation is a recurrence of the syndromes
side_recurrence : (f : ℕ → ℕ) (n : ℕ) (row : List ℕ) (col : ℕ) (ls : List ℕ) (b : ℕ)
    → ((j : ℕ) → j < length ls → get_or row (col + j) 0 ≡ f (n + (length ls - suc j))) → get_or row (col + length ls) 0 ≡ b → b < 128
    → side_from col row ls ≡ bit_xor (recurrence f n ls) b
unfolding side_from recurrence
side_recurrence f n row col [] b c e h =
    ap (λ (z : ℕ). z % 128) (ap (λ (k : ℕ). get_or row k 0) (sym (add-zero col)) ∙ e) ∙ mod-eq_of_lt h
side_recurrence f n row col (l ∷ ls) b c e h =
    let d : suc (length ls) - 1 ≡ length ls = omega arith in
    ap₂ bit_xor (comm (get_or row col 0) l ∙ ap (mul l)
    (ap (λ (k : ℕ). get_or row k 0) (sym (add-zero col)) ∙ c 0 (omega arith) ∙ ap (λ (m : ℕ). f (n + m)) d))
    (side_recurrence f n row (suc col) ls b
    (λ j k.
    let g : suc (length ls) - suc (suc j) ≡ length ls - suc j = omega arith in
    ap (λ (m : ℕ). get_or row m 0) (suc-add col j ∙ sym (add-suc col j)) ∙ c (suc j) (omega arith) ∙ ap (λ (m : ℕ). f (n + m)) g)
    (ap (λ (m : ℕ). get_or row m 0) (suc-add col (length ls) ∙ sym (add-suc col (length ls))) ∙ e) h)
    ∙ sym (xor_assoc (mul l (f (n + length ls))) (recurrence f n ls) b)

row_recurrence : (s : List ℕ) (f : ℕ → ℕ) (n v : ℕ) (row ls : List ℕ) → length ls ≡ v → Equation s n v row
    → ((m : ℕ) → n ≤ m → m ≤ n + v → get_or s m 0 ≡ f m) → f (n + v) < 128 → side row ls ≡ recurrence f n (1 ∷ ls)
unfolding recurrence
row_recurrence s f n v row ls ll E h small =
    side_recurrence f n row 0 ls (f (n + v))
    (λ j k.
    let z : 0 + j ≡ j = omega arith in
    ap (λ (m : ℕ). get_or row m 0) z ∙ E.coefficient j (omega arith) ∙ h (n + (v - suc j)) (omega arith) (omega arith)
    ∙ ap (λ (m : ℕ). f (n + (m - suc j))) (sym ll))
    (let z : 0 + length ls ≡ v = omega arith in
    ap (λ (m : ℕ). get_or row m 0) z ∙ E.constant ∙ h (n + v) (omega arith) (omega arith))
    small
    ∙ xor_comm (recurrence f n ls) (f (n + v))
    ∙ ap (λ (z : ℕ). bit_xor z (recurrence f n ls)) (sym (ap (λ (m : ℕ). mul 1 (f (n + m))) ll ∙ one_mul (f (n + v)) small))

-- the recurrence of the later syndromes
recurrence_later : (f : ℕ → ℕ) (n : ℕ) (ls : List ℕ) → recurrence (λ (k : ℕ). f (suc k)) n ls ≡ recurrence f (suc n) ls
unfolding recurrence
recurrence_later f n [] = refl
recurrence_later f n (l ∷ ls) =
    ap₂ (λ (k r : ℕ). bit_xor (mul l (f k)) r) (sym (suc-add n (length ls))) (recurrence_later f n ls)

-- an equation of zeros is always solved
side_zero : (row : List ℕ) → ((k : ℕ) → get_or row k 0 ≡ 0) → (col : ℕ) (ys : List ℕ) → side_from col row ys ≡ 0
unfolding side_from
side_zero row h col [] = ap (λ (z : ℕ). z % 128) (h col)
side_zero row h col (y ∷ ys) = ap₂ bit_xor (ap (λ (z : ℕ). mul z y) (h col) ∙ zero_l y) (side_zero row h (suc col) ys)

-- what an attempt starts from
pub record Posed (w s : List ℕ) (v : ℕ) (rows : List (List ℕ)) : Type 0 where
  pub long : length w ≡ 111
  pub bit : are_bits w ≡ true
  pub few : v ≤ 6
  pub syndromes : Syndromes (leftover w) s
  pub six : length rows ≡ 6
  pub equations : (i : ℕ) → i < v → Equation s i v (get_or rows i [])
  pub rest : (i : ℕ) → v ≤ i → (k : ℕ) → get_or (get_or rows i []) k 0 ≡ 0

module _ (w s : List ℕ) (v : ℕ) (rows : List (List ℕ)) (P : Posed w s v rows) where
  syndrome_at : (k : ℕ) → k < 12 → get_or s k 0 ≡ syndrome w (suc k)
  syndrome_at k h = P.syndromes k h ∙ syndrome_leftover w P.long P.bit (suc k) (omega arith) (omega arith)

  syndrome_small : (k : ℕ) → syndrome w k < 128
  unfolding syndrome
  syndrome_small k = value_small (exp k) w

  row_at : (ls : List ℕ) → length ls ≡ v → (i : ℕ) → i < v → side (get_or rows i []) ls ≡ recurrence (syndrome w) (suc i) (1 ∷ ls)
  row_at ls ll i h =
      row_recurrence s (λ (k : ℕ). syndrome w (suc k)) i v (get_or rows i []) ls ll (P.equations i h)
      (λ m a b. syndrome_at m (omega (arith, P.few))) (syndrome_small (suc (i + v)))
      ∙ recurrence_later (syndrome w) i (1 ∷ ls)

  -- a solution of the rows solves the key equations, and the other way round
  solution_key : (ls : List ℕ) → length ls ≡ v → Solve rows ls → KeyEquations w v ls
  solution_key ls ll z = record { degree = ll; equations = λ i h. sym (row_at ls ll i h) ∙ z i (omega (arith, P.six, P.few)) }

  key_solution : (ls : List ℕ) → KeyEquations w v ls → Solve rows ls
  key_solution ls K i h =
      ⊎_elim (λ l. row_at ls K.degree i l ∙ K.equations i l) (λ l. side_zero (get_or rows i []) (P.rest i l) 0 ls) (cases_lt i v)

  received : (c : List ℕ) → Near w c → Received w c
  received c a = record { long = P.long; bit = P.bit; code = a.code; near = a.near }

  pub flips_to : (ls : List ℕ) → length ls ≡ 6 → Solve rows (take (min v 6) ls) → (c : List ℕ) → Near w c → v ≡ distance w c
      → flipped (is_root (take v ls)) w ≡ c
  flips_to ls ll z c a e =
      let d : min v 6 ≡ v = omega (arith, P.few) in
      let l : length (take v ls) ≡ v = simp length-take (omega (arith, P.few)) in
      corrects w c (received c a) (take v ls)
      (subst (λ (n : ℕ). KeyEquations w n (take v ls)) e (solution_key (take v ls) l (subst (λ (n : ℕ). Solve rows (take n ls)) d z)))

  pub no_solution : ((ys : List ℕ) → length ys ≡ min v 6 → Solve rows ys → ⊥) → (c : List ℕ) → Near w c → v ≡ distance w c → ⊥
  no_solution f c a e =
      let k = solvable w c (received c a) in
      let K : KeyEquations w v k.0 = subst (λ (n : ℕ). KeyEquations w n k.0) (sym e) k.1 in
      f k.0 (omega (arith, K.degree, P.few)) (key_solution k.0 K)

-- ---- loops that fill a list
module _ {X : Type 0} (d : X) (P : ℕ → X → Type 0) where
  pub set_below : (xs : List X) (i : ℕ) (y : X) → i < length xs → ((k : ℕ) → k < i → P k (get_or xs k d)) → P i y
      → (k : ℕ) → k < i + 1 → P k (get_or (set xs i y) k d)
  set_below xs i y h below here k l =
      let m : k ≤ i = omega arith in
      ⊎_elim
      (λ e. subst (λ (j : ℕ). P j (get_or (set xs i y) j d)) (sym e) (subst (P i) (sym (get_or-set_same xs i y d h)) here))
      (λ n. subst (P k) (sym (get_or-set_other xs i k y d (λ e. omega arith))) (below k n))
      (eq-or-lt_of_le m)

pub power_first : 1 ≡ exp 0
power_first = sym exp_nought

pub power_below : (x n : ℕ) → x ≡ exp n → x < 128
power_below x n e = subst (λ (z : ℕ). z < 128) (sym e) (exp_small n)

-- ---- flipping, from the last bit on
pub flipped_none : (f : ℕ → Bool) (w out : List ℕ) → length w ≡ 111 → length out ≡ 111 → drop 111 out ≡ flipped f (drop 111 w)
unfolding flipped
flipped_none f w out lw lo = drop_all 111 out (omega arith) ∙ sym (ap (flipped f) (drop_all 111 w (omega arith)))

pub flipped_more : (ls w out : List ℕ) (i x p t : ℕ) → 0 < i → i ≤ 111 → length w ≡ 111 → length out ≡ 111 → x ≡ exp (111 - i)
    → p ≡ value x (1 ∷ ls) → t ≡ cond (eqb p 0) (1 - get_or w (i - 1) 0) (get_or w (i - 1) 0)
    → drop i out ≡ flipped (is_root ls) (drop i w) → drop (i - 1) (set out (i - 1) t) ≡ flipped (is_root ls) (drop (i - 1) w)
unfolding flipped is_root
flipped_more ls w out i x p t pos h lw lo ex ep et e =
    let b : ℕ = get_or w (i - 1) 0 in
    let d : length (drop i w) ≡ 111 - i = length-drop i w ∙ ap (λ (n : ℕ). n - i) lw in
    let q : p ≡ value (exp (length (drop i w))) (1 ∷ ls) = ep ∙ ap (λ (z : ℕ). value z (1 ∷ ls)) (ex ∙ ap exp (sym d)) in
    down_set out i t pos (omega arith)
    ∙ ap₂ (λ (a : ℕ) (r : List ℕ). a ∷ r) (et ∙ ap (λ (z : ℕ). cond (eqb z 0) (1 - b) b) q) e
    ∙ sym (ap (flipped (is_root ls)) (down w i pos (omega arith)))

pub place_more : (i x y : ℕ) → 0 < i → i ≤ 111 → x ≡ exp (111 - i) → y ≡ by_c x → y ≡ exp (111 - (i - 1))
place_more i x y p h e f =
    let d : 111 - (i - 1) ≡ suc (111 - i) = omega arith in
    f ∙ ap by_c e ∙ exp_next (111 - i) ∙ ap exp (sym d)
