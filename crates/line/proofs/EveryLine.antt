-- What follows from the rules alone.
use Rattle.std.proofs.Common.{◌≡◌, ℕ, zero, suc, ◌<◌, ◌≤◌, Bool, true, false, eqb, ◌⊎◌, List, [], ◌∷◌, length, get_or, replicate, sym, refl, ap, ◌∙◌, inl, inr, ⊎_elim, arith, lit<}
use lib.ListN.{length-replicate}
use Rattle.std.proofs.lemmas.Bool.{eqb-true, and_parts, cases_Bool, cases_order, not-true, not_from_false, both_ways}
use Rattle.std.proofs.lemmas.Bool.Decides.{nat_tests}
use Rattle.coding.specs.Bits.{are_bits}
use Rattle.coding.specs.Distance.{distance}
use Rattle.line.specs.Line.{Model, Word, LineRules}
use Rattle.line.specs.Calls.{fits}
use Rattle.line.specs.Laws.{Undamaged, SomeLineBit, NoLength, OtherLength, DecodeLengths}
use Rattle.line.proofs.Answers.{fits_from}
use Rattle.coding.proofs.Distances.{distance_self, distance_zero}

pub undamaged : Undamaged
undamaged m r n w last t word hb =
    let y = m.encode w last in
    let far = r.near n w last y t word hb (r.encodes n w last t word hb) in
    let none : m.growth (distance y y) ≡ 0 = ap m.growth (distance_self y) ∙ r.none in
    distance_zero (m.decode y) w (omega arith)

-- n times the same bit
constant_bits : (n b : ℕ) → b < 2 → are_bits (replicate n b) ≡ true
constant_bits zero b h = refl
constant_bits (suc n) b h = grind (arith, nat_tests, constant_bits n b h)

first_bit : (n b : ℕ) → 1 ≤ n → get_or (replicate n b) 0 0 ≡ b
first_bit zero b h = absurd (omega arith)
first_bit (suc n) b h = refl

nothing : (xs ys : List ℕ) → length xs ≡ 0 → length ys ≡ 0 → xs ≡ ys
nothing [] [] p q = refl
nothing [] (y ∷ ys) p q = absurd (omega arith)
nothing (x ∷ xs) ys p q = absurd (omega arith)

-- two words cannot both be nothing on the line
pub some_line_bit : SomeLineBit
some_line_bit m r n t h = ⊎_elim (λ e. absurd (apart e)) (λ p. p) (some (m.line_length n))
  where
    some : (l : ℕ) → (l ≡ 0) ⊎ (1 ≤ l)
    some l = grind arith

    word : (b : ℕ) → b < 2 → Word n (replicate n b)
    word b hb = (length-replicate n b, constant_bits n b hb)

    line : (b : ℕ) → List ℕ
    line b = m.encode (replicate n b) 0

    back : (b : ℕ) → b < 2 → m.decode (line b) ≡ replicate n b
    back b hb = undamaged m r n (replicate n b) 0 t (word b hb) (lit< tt)

    apart : m.line_length n ≡ 0 → ⊥
    apart e =
        let none : (b : ℕ) → b < 2 → length (line b) ≡ 0 = λ b hb. (r.encodes n (replicate n b) 0 t (word b hb) (lit< tt)).0 ∙ e in
        let one : line 0 ≡ line 1 = nothing (line 0) (line 1) (none 0 (lit< tt)) (none 1 (lit< tt)) in
        let both : ◌≡◌ {A = List ℕ} (replicate n 0) (replicate n 1) = sym (back 0 (lit< tt)) ∙ ap m.decode one ∙ back 1 (lit< tt) in
        let z : ◌≡◌ {A = ℕ} 0 1 = sym (first_bit n 0 h) ∙ ap (λ (xs : List ℕ). get_or xs 0 0) both ∙ first_bit n 1 h in
        omega arith

-- what passes a test below k, or that nothing does
find : (p : ℕ → Bool) (k : ℕ) → ((n : ℕ) × (p n ≡ true)) ⊎ ((n : ℕ) → n < k → p n ≡ false)
find p zero = inr (λ n h. absurd (omega arith))
find p (suc k) = ⊎_elim inl (λ below. ⊎_elim (λ here. inl (k, here)) (λ off. inr (last below off)) (cases_Bool (p k))) (find p k)
  where
    last : ((n : ℕ) → n < k → p n ≡ false) → p k ≡ false → (n : ℕ) → n < suc k → p n ≡ false
    last below off n h = ⊎_elim (λ e. ap p e ∙ off) (λ l. below n l) (split n h)
      where
        split : (n : ℕ) → n < suc k → (n ≡ k) ⊎ (n < k)
        split n h = grind arith

module _ (m : Model) (r : LineRules m) where
  -- a line length is that of one length only
  one_length : (a b : ℕ) → m.takes a ≡ true → m.takes b ≡ true → m.line_length a ≡ m.line_length b → a ≡ b
  one_length a b ta tb e =
      ⊎_elim (λ p. p) (λ o.
      ⊎_elim (λ lt. absurd (omega (arith, r.longer a b ta tb lt))) (λ gt. absurd (omega (arith, r.longer b a tb ta gt))) o)
      (cases_order a b)

  fits_parts : (n l : ℕ) → fits m n l ≡ true → (m.takes n ≡ true) × (m.line_length n ≡ l)
  fits_parts n l h =
      let p = and_parts (m.takes n) (eqb (m.line_length n) l) h in
      (p.0, eqb-true (m.line_length n) l p.1)

  refused : (l o : ℕ) → fits m o l ≡ false → NoLength m l ⊎ OtherLength m l o
  refused l o h =
      ⊎_elim
      (λ found.
      let p = fits_parts found.0 l found.1 in
      inr (found.0, p.0, p.1, λ e. both_ways (fits m o l) h (ap (λ (n : ℕ). fits m n l) e ∙ found.1)))
      (λ none. inl (λ n t e. both_ways (fits m n l) (none n (omega (arith, (r.short n t).0))) (fits_from m n l t e)))
      (find (λ n. fits m n l) 4097)

  unfit : (l o : ℕ) → NoLength m l ⊎ OtherLength m l o → fits m o l ≡ true → ⊥
  unfit l o why h =
      let p = fits_parts o l h in
      ⊎_elim (λ none. none o p.0 p.1) (λ other. other.3 (one_length o other.0 p.0 other.1 (p.1 ∙ sym other.2))) why

pub decode_lengths : DecodeLengths
decode_lengths m r l o = (
  λ h. refused m r l o (not-true (fits m o l) h),
  λ why. ⊎_elim (λ on. absurd (unfit m r l o why on)) (not_from_false (fits m o l)) (cases_Bool (fits m o l)),
)
