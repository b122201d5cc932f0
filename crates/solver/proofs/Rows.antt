-- Equations of a system while columns are eliminated: what solves the one solves the other.
use Rattle.std.proofs.Common.{◌≡◌, ℕ, zero, suc, ◌+◌, ◌-◌, ◌%◌, ◌<◌, ◌≤◌, List, [], ◌∷◌, ◌++◌, Option, Some, None, fold, replicate, length, get_or, take, drop, set, sym, refl, ap, ◌∙◌, subst, ap₂, mod-lt, mod-eq_of_lt, add-one, arith, lit<, length-set, length-take, drop-cons, get_or-set_same, drop-set-lt}
use Rattle.std.specs.List.{zip}
use Rattle.std.proofs.lemmas.List.{take_more, get_or-take}
use lib.Bits.{bit_xor, xor_comm, xor_assoc, xor_lt, xor_zero_r, xor_self}
use Rattle.field.specs.Field.{mul, inverse}
use Rattle.field.proofs.Elements.{comm, assoc, mul_mod, mul_small, one_mul, zero_r, zero_l, cancel, ring, inverts}
use Rattle.solver.specs.Linear.{side_from}
use Rattle.solver.specs.Elimination.{Clear, SolveFrom, Solved, Combined, Eliminated}

residue : (x : ℕ) → x % 128 < 128
residue x = mod-lt x (lit< tt)

-- ---- the left side of an equation
side_small : (col : ℕ) (r ys : List ℕ) → side_from col r ys < 128
unfolding side_from
side_small col r [] = residue (get_or r col 0)
side_small col r (y ∷ ys) = xor_lt 7 (mul (get_or r col 0) y) (side_from (suc col) r ys) (mul_small (get_or r col 0) y)
    (side_small (suc col) r ys)

side_head : (r : List ℕ) (col y : ℕ) (ys : List ℕ) → side_from col r (y ∷ ys) ≡ bit_xor (mul (get_or r col 0) y) (side_from (suc col) r ys)
unfolding side_from
side_head r col y ys = refl

side_constant : (r : List ℕ) (col : ℕ) → side_from col r [] ≡ get_or r col 0 % 128
unfolding side_from
side_constant r col = refl

-- what stands before the column and behind the constant does not matter
side_behind : (col a : ℕ) (r ys : List ℕ) → side_from (suc col) (a ∷ r) ys ≡ side_from col r ys
unfolding side_from
side_behind col a r [] = refl
side_behind col a r (y ∷ ys) = ap (bit_xor (mul (get_or r col 0) y)) (side_behind (suc col) a r ys)

side_take : (n col : ℕ) (r ys : List ℕ) → col + length ys < n → side_from col (take n r) ys ≡ side_from col r ys
unfolding side_from
side_take n col r [] h = ap (λ (z : ℕ). z % 128) (get_or-take n r col 0 (omega arith))
side_take n col r (y ∷ ys) h =
    ap₂ (λ (a s : ℕ). bit_xor (mul a y) s) (get_or-take n r col 0 (omega arith)) (side_take n (suc col) r ys (omega arith))

-- the part of an equation from the column on to the constant at v
pub side_part : (col v : ℕ) (r ys : List ℕ) → col ≤ v → v < length r → length ys ≡ v - col
    → side_from 0 (take (v - col) (drop col r) ++ (get_or r v 0 ∷ [])) ys ≡ side_from col r ys
side_part zero v r ys h l e =
    let all : v - 0 ≡ v = omega arith in
    ap (λ (n : ℕ). side_from 0 (take n r ++ (get_or r v 0 ∷ [])) ys) all
    ∙ ap (λ (z : List ℕ). side_from 0 z ys) (sym (take_more r v 0 l)) ∙ side_take (v + 1) 0 r ys (omega arith)
side_part (suc col) zero r ys h l e = absurd (omega arith)
side_part (suc col) (suc v) [] ys h l e = absurd (omega arith)
side_part (suc col) (suc v) (a ∷ r) ys h l e =
    let less : suc v - suc col ≡ v - col = omega arith in
    ap (λ (n : ℕ). side_from 0 (take n (drop col r) ++ (get_or r v 0 ∷ [])) ys) less
    ∙ side_part col v r ys (omega arith) (omega arith) (omega arith) ∙ sym (side_behind col a r ys)

-- the sum of the products
pub side_sum : (cs xs : List ℕ) (c s : ℕ) → length cs ≡ length xs
    → fold (λ (s : ℕ) (p : ℕ × ℕ). bit_xor s (mul p.0 p.1)) (bit_xor s (c % 128)) (zip cs xs) ≡ bit_xor s (side_from 0 (cs ++ (c ∷ [])) xs)
unfolding side_from
side_sum [] [] c s e = refl
side_sum [] (x ∷ xs) c s e = absurd (omega arith)
side_sum (a ∷ cs) [] c s e = absurd (omega arith)
side_sum (a ∷ cs) (x ∷ xs) c s e =
    let m : ℕ = mul a x in
    let t : ℕ = c % 128 in
    ap (λ (z : ℕ). fold (λ (s : ℕ) (p : ℕ × ℕ). bit_xor s (mul p.0 p.1)) z (zip cs xs))
    (xor_assoc s t m ∙ ap (bit_xor s) (xor_comm t m) ∙ sym (xor_assoc s m t))
    ∙ side_sum cs xs c (bit_xor s m) (omega arith)
    ∙ xor_assoc s m (side_from 0 (cs ++ (c ∷ [])) xs)
    ∙ ap (λ (z : ℕ). bit_xor s (bit_xor m z)) (sym (side_behind 0 a (cs ++ (c ∷ [])) xs))

-- ---- a combination of two equations
residue_combined : (a b x y : ℕ) → bit_xor (mul a x) (mul b y) % 128 ≡ bit_xor (mul a (x % 128)) (mul b (y % 128))
residue_combined a b x y =
    mod-eq_of_lt (xor_lt 7 (mul a x) (mul b y) (mul_small a x) (mul_small b y)) ∙ ap₂ bit_xor (right a x) (right b y)
  where
    right : (a x : ℕ) → mul a x ≡ mul a (x % 128)
    right a x =
        mul_mod a x ∙ sym (ap (λ (z : ℕ). mul (a % 128) z) (mod-eq_of_lt (residue x))) ∙ sym (mul_mod a (x % 128))

combined_sorted : (a b x q y u w : ℕ)
    → bit_xor (mul (bit_xor (mul a x) (mul b q)) y) (bit_xor (mul a u) (mul b w)) ≡ bit_xor (mul a (bit_xor (mul x y) u))
    (mul b (bit_xor (mul q y) w))
combined_sorted a b x q y u w = simp ring

side_combined : (a b : ℕ) (r p n : List ℕ) → Combined a r b p n → (col : ℕ) (ys : List ℕ) → col + length ys < 7
    → side_from col n ys ≡ bit_xor (mul a (side_from col r ys)) (mul b (side_from col p ys))
unfolding side_from
side_combined a b r p n m col [] h =
    ap (λ (z : ℕ). z % 128) (m col (omega arith)) ∙ residue_combined a b (get_or r col 0) (get_or p col 0)
side_combined a b r p n m col (y ∷ ys) h =
    ap₂ bit_xor (ap (λ (z : ℕ). mul z y) (m col (omega arith))) (side_combined a b r p n m (suc col) ys (omega arith))
    ∙ combined_sorted a b (get_or r col 0) (get_or p col 0) y (side_from (suc col) r ys) (side_from (suc col) p ys)

-- ---- one equation r and the pivot p, of which n is made so that the column goes
module _ (p r n : List ℕ) (col : ℕ) (m : Combined (get_or p col 0) r (get_or r col 0) p n) (y : ℕ) (ys : List ℕ)
    (h : col + suc (length ys) < 7) where
  side_made : side_from col n (y ∷ ys) ≡ bit_xor (mul (get_or p col 0) (side_from col r (y ∷ ys))) (mul (get_or r col 0) (side_from col p (y ∷ ys)))
  side_made = side_combined (get_or p col 0) (get_or r col 0) r p n m col (y ∷ ys) h

  -- the column is gone
  made_head : side_from col n (y ∷ ys) ≡ side_from (suc col) n ys
  made_head =
      side_head n col y ys
      ∙ ap (λ (z : ℕ). bit_xor z (side_from (suc col) n ys))
      (ap (λ (z : ℕ). mul z y)
      (m col (omega arith) ∙ ap (bit_xor (mul (get_or p col 0) (get_or r col 0))) (comm (get_or r col 0) (get_or p col 0))
      ∙ xor_self (mul (get_or p col 0) (get_or r col 0)))
      ∙ zero_l y)

  row_down : side_from col p (y ∷ ys) ≡ 0 → side_from col r (y ∷ ys) ≡ 0 → side_from (suc col) n ys ≡ 0
  row_down ep er =
      sym made_head ∙ side_made
      ∙ ap₂ bit_xor (ap (mul (get_or p col 0)) er ∙ zero_r (get_or p col 0)) (ap (mul (get_or r col 0)) ep ∙ zero_r (get_or r col 0))

  row_up : 0 < get_or p col 0 % 128 → side_from col p (y ∷ ys) ≡ 0 → side_from (suc col) n ys ≡ 0 → side_from col r (y ∷ ys) ≡ 0
  row_up pos ep en =
      let s : ℕ = side_from col r (y ∷ ys) in
      let hs : s < 128 = side_small col r (y ∷ ys) in
      cancel s (get_or p col 0 % 128) hs (residue (get_or p col 0)) (λ z. omega arith)
      (comm s (get_or p col 0 % 128) ∙ ap (mul (get_or p col 0 % 128)) (sym (mod-eq_of_lt hs)) ∙ sym (mul_mod (get_or p col 0) s)
      ∙ sym (xor_zero_r (mul (get_or p col 0) s))
      ∙ ap (bit_xor (mul (get_or p col 0) s)) (sym (ap (mul (get_or r col 0)) ep ∙ zero_r (get_or r col 0)))
      ∙ sym side_made ∙ made_head ∙ en)

-- an equation with no coefficient in the column
row_free : (r : List ℕ) (col y : ℕ) (ys : List ℕ) → get_or r col 0 % 128 ≡ 0 → side_from col r (y ∷ ys) ≡ side_from (suc col) r ys
row_free r col y ys e =
    side_head r col y ys
    ∙ ap (λ (z : ℕ). bit_xor z (side_from (suc col) r ys)) (mul_mod (get_or r col 0) y ∙ ap (λ (z : ℕ). mul z (y % 128)) e ∙ zero_l (y % 128))

-- the value that the pivot asks for
pivot_zero : (p : List ℕ) (col s : ℕ) (ys : List ℕ) → 0 < get_or p col 0 % 128 → s ≡ side_from (suc col) p ys
    → side_from col p (mul (inverse (get_or p col 0)) s ∷ ys) ≡ 0
pivot_zero p col s ys pos e =
    let a : ℕ = get_or p col 0 in
    let hs : s < 128 = subst (λ (z : ℕ). z < 128) (sym e) (side_small (suc col) p ys) in
    side_head p col (mul (inverse a) s) ys
    ∙ ap₂ bit_xor (sym (assoc a (inverse a) s) ∙ ap (λ (z : ℕ). mul z s) (inverts a pos) ∙ one_mul s hs) (sym e)
    ∙ xor_self s

-- ---- the values, from a column on, with one more in front
values_split : (xs : List ℕ) (col v : ℕ) → col < v → v ≤ length xs
    → take (v - col) (drop col xs) ≡ get_or xs col 0 ∷ take (v - suc col) (drop (suc col) xs)
values_split xs col v h l =
    let g : v - col ≡ suc (v - suc col) = omega arith in
    ap₂ take g (drop-cons xs col 0 (omega arith))

values_more : (xs : List ℕ) (col v y : ℕ) → col < v → v ≤ length xs
    → take (v - col) (drop col (set xs col y)) ≡ y ∷ take (v - suc col) (drop (suc col) xs)
values_more xs col v y h l =
    values_split (set xs col y) col v h (omega (arith, length-set xs col y))
    ∙ ap₂ (λ (a : ℕ) (r : List ℕ). a ∷ take (v - suc col) r) (get_or-set_same xs col y 0 (omega arith)) (drop-set-lt (suc col) xs col y (omega arith))

values_length : (xs : List ℕ) (col v : ℕ) → length (take (v - col) (drop col xs)) ≤ v - col
values_length xs col v = omega (arith, length-take (v - col) (drop col xs))

pub small_set : (xs : List ℕ) (i y : ℕ) → ((k : ℕ) → get_or xs k 0 < 128) → y < 128 → (k : ℕ) → get_or (set xs i y) k 0 < 128
small_set [] i y h hy k = h k
small_set (x ∷ xs) zero y h hy zero = hy
small_set (x ∷ xs) zero y h hy (suc k) = h (suc k)
small_set (x ∷ xs) (suc i) y h hy zero = h 0
small_set (x ∷ xs) (suc i) y h hy (suc k) = small_set xs i y (λ k. h (suc k)) hy k

pub small_zeros : (n k : ℕ) → get_or (replicate n 0) k 0 < 128
small_zeros zero k = lit< tt
small_zeros (suc n) zero = lit< tt
small_zeros (suc n) (suc k) = small_zeros n k

-- ---- the whole system
after : (r ys : List ℕ) (col : ℕ) → side_from (suc col) r ys ≡ 0 → side_from (col + 1) r ys ≡ 0
after r ys col e = ap (λ (m : ℕ). side_from m r ys) (add-one col) ∙ e

module _ (rows : List (List ℕ)) (col v : ℕ) (h : col < v) (l : v ≤ 6) where
  module _ (z : Clear rows col) where
    free_solved : (xs : List ℕ) → length xs ≡ 6
        → SolveFrom (col + 1) rows (take (v - (col + 1)) (drop (col + 1) xs))
        → SolveFrom col rows (take (v - col) (drop col xs))
    free_solved xs e s i k =
        ap (side_from col (get_or rows i [])) (values_split xs col v h (omega arith))
        ∙ row_free (get_or rows i []) col (get_or xs col 0) (take (v - suc col) (drop (suc col) xs)) (z i k)
        ∙ ap (λ (m : ℕ). side_from m (get_or rows i []) (take (v - m) (drop m xs))) (sym (add-one col)) ∙ s i k

    free_none : ((ys : List ℕ) → length ys ≡ v - (col + 1) → SolveFrom (col + 1) rows ys → ⊥)
        → (ys : List ℕ) → length ys ≡ v - col → SolveFrom col rows ys → ⊥
    free_none f [] e s = omega arith
    free_none f (y ∷ ys) e s =
        f ys (omega arith) (λ i k. after (get_or rows i []) ys col (sym (row_free (get_or rows i []) col y ys (z i k)) ∙ s i k))

    pub free : (r : Option (List ℕ)) → Solved (col + 1) v rows r → Solved col v rows r
    free None f = free_none f
    free (Some xs) f = (f.0, free_solved xs f.0 f.1, f.2)

  module _ (p : ℕ) (hp : p < length rows) (new : List (List ℕ)) (same : length new ≡ length rows)
      (m : Eliminated col (get_or rows p []) rows new)
    where
      pub pivot_none : ((ys : List ℕ) → length ys ≡ v - (col + 1) → SolveFrom (col + 1) new ys → ⊥)
          → (ys : List ℕ) → length ys ≡ v - col → SolveFrom col rows ys → ⊥
      pivot_none f [] e s = omega arith
      pivot_none f (y ∷ ys) e s =
          f ys (omega arith)
          (λ i k.
          let j : i < length rows = omega arith in
          after (get_or new i []) ys col
          (row_down (get_or rows p []) (get_or rows i []) (get_or new i []) col (m i j) y ys (omega arith) (s p hp) (s i j)))

      pub pivot_solved : (xs : List ℕ) (s y : ℕ) → length xs ≡ 6 → 0 < get_or (get_or rows p []) col 0 % 128
          → s ≡ side_from (col + 1) (get_or rows p []) (take (v - (col + 1)) (drop (col + 1) xs))
          → y ≡ mul (inverse (get_or (get_or rows p []) col 0)) s
          → SolveFrom (col + 1) new (take (v - (col + 1)) (drop (col + 1) xs))
          → SolveFrom col rows (take (v - col) (drop col (set xs col y)))
      pivot_solved xs s y e pos iss isy solved i k =
          let ys : List ℕ = take (v - suc col) (drop (suc col) xs) in
          ap (side_from col (get_or rows i [])) (values_more xs col v y h (omega arith))
          ∙ row_up (get_or rows p []) (get_or rows i []) (get_or new i []) col (m i k) y ys (omega (arith, values_length xs (suc col) v)) pos
          (ap (λ (q : ℕ). side_from col (get_or rows p []) (q ∷ ys)) isy
          ∙ pivot_zero (get_or rows p []) col s ys pos
          (iss ∙ ap (λ (n : ℕ). side_from n (get_or rows p []) (take (v - n) (drop n xs))) (add-one col)))
          (ap (λ (n : ℕ). side_from n (get_or new i []) (take (v - n) (drop n xs))) (sym (add-one col)) ∙ solved i (omega arith))

-- no column is left
pub end_solved : (rows : List (List ℕ)) (col v : ℕ) (ys : List ℕ) → col ≡ v → Clear rows col → SolveFrom col rows (take (v - col) ys)
end_solved rows col v ys e z i k =
    let d : v - col ≡ 0 = omega arith in
    ap (λ (n : ℕ). side_from col (get_or rows i []) (take n ys)) d ∙ side_constant (get_or rows i []) col ∙ z i k

pub end_none : (rows : List (List ℕ)) (col v r : ℕ) → col ≡ v → r < length rows → 0 < get_or (get_or rows r []) col 0 % 128
    → (ys : List ℕ) → length ys ≡ v - col → SolveFrom col rows ys → ⊥
end_none rows col v r e h pos [] n s = omega (arith, side_constant (get_or rows r []) col, s r h)
end_none rows col v r e h pos (y ∷ ys) n s = omega arith
