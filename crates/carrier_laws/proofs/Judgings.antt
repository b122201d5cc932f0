-- Exactly when received bits are refused as a frame.
use Rattle.std.proofs.Common.{◌≡◌, ℕ, zero, suc, ◌+◌, ◌<◌, ◌≤◌, Bool, true, false, cond, eqb, leb, List, length, take, drop, Some, None, Ok, Err, Option, Result, sym, refl, ap, ◌∙◌, subst, arith}
use Rattle.std.proofs.lemmas.List.{length-take-le, length-drop}
use Rattle.std.proofs.lemmas.Bool.{eqb-true, eqb-false, leb-true, leb-false, le-leb, lt-leb, cond-true, cond-false}
use Rattle.coding.specs.Bits.{are_bits, bits, number}
use Rattle.coding.specs.Distance.{distance}
use Rattle.coding.specs.Crc.{crc8}
use Rattle.coding.proofs.Words.{length_bits, bits_take, bits_drop}
use Rattle.coding.proofs.Distances.{distance_triangle}
use Rattle.bch.specs.Nearest.{nearest, Near}
use Rattle.bch.specs.Codec.{found, decoded}
use Rattle.bch.specs.declared.word.Corrected.{Corrected}
use Rattle.bch.specs.declared.word.CodeRefusal.{CodeRefusal}
use Rattle.bch.specs.declared.word.CodeRefusal.TheVariants.{NotBits}
use Rattle.bch.proofs.Nearby.{finds}
use Rattle.frame.specs.Frame.{unique_word}
use Rattle.frame.specs.Judging.{and_then, unique_of, understood, checked_half, half_from, judged_half, frame_from, judged}
use Rattle.frame.specs.declared.carried.Half.{Half}
use Rattle.frame.specs.declared.carried.Frame.{Frame}
use Rattle.frame.specs.declared.refusal.FrameRefusal.{FrameRefusal}
use Rattle.frame.specs.declared.refusal.FrameRefusal.TheVariants.{UniqueWord, Codeword, Crc}
use Rattle.frame.proofs.Reading.{crc_right, crc_wrong, judged_whole, judged_refused}
use Rattle.carrier_laws.specs.ExactJudging.{RightCrc, WrongCrc, Says, ExactHalf, NoUniqueWord, HasUniqueWord, RefusedHalf, first_bits, second_bits, Verdict, ExactHalves}
use Rattle.carrier_laws.specs.ExactJudging.RefusedHalf.{no_codeword, wrong_crc}
use Rattle.carrier_laws.specs.ExactJudging.Verdict.{no_unique_word, in_first, in_second, accepted}

-- ---- a half
-- what a codeword's CRC makes of it
data Crcs (half : ℕ) (c : List ℕ) : Type 0 where
  right : RightCrc c → checked_half half c ≡ Ok (understood (take 61 c)) → Crcs half c
  wrong : (RightCrc c → ⊥) → checked_half half c ≡ Err (Crc half) → Crcs half c

crcs : (half : ℕ) (c : List ℕ) → Crcs half c
crcs half c = by (eqb (number (take 8 (drop 61 c))) (crc8 (take 61 c))) refl
  where
    by : (t : Bool) → eqb (number (take 8 (drop 61 c))) (crc8 (take 61 c)) ≡ t → Crcs half c
    by true e = let r : RightCrc c = eqb-true _ _ e in right r (sym (crc_right half c _ r refl))
    by false e = let n : RightCrc c → ⊥ = eqb-false _ _ e in wrong n (sym (crc_wrong half c n))

-- the codeword within six places, or none, and what is judged then
data Nears (half : ℕ) (w : List ℕ) : Type 0 where
  one : (c : List ℕ) → Near w c → Nears half w
  none : judged_half half w ≡ Err (Codeword half) → Nears half w

-- different answers
ok_err : {x : Half} {f : FrameRefusal} → ◌≡◌ {A = Result Half FrameRefusal} (Ok x) (Err f) → ⊥
ok_err e = let z : ◌≡◌ {A = ℕ} 0 1 = cc in omega arith

crc_code : (half : ℕ) → ◌≡◌ {A = Result Half FrameRefusal} (Err (Crc half)) (Err (Codeword half)) → ⊥
crc_code half e = let z : ◌≡◌ {A = ℕ} 0 1 = cc in omega arith

module _ (half : ℕ) (w : List ℕ) (l : length w ≡ 111) (b : are_bits w ≡ true) where
  at : (o : Option (List ℕ)) → nearest w ≡ o → judged_half half w ≡ half_from half (found w o)
  at o e =
      ap (λ (t : Bool). half_from half (cond t (found w (nearest w)) (Err NotBits))) b
      ∙ ap (λ (x : Option (List ℕ)). half_from half (found w x)) e

  at_near : (c : List ℕ) → Near w c → judged_half half w ≡ checked_half half c
  at_near c n = at (Some c) (((finds w l b).some c).1 n)

  nears : Nears half w
  nears = by (nearest w) refl
    where
      by : (o : Option (List ℕ)) → nearest w ≡ o → Nears half w
      by (Some c) e = one c (((finds w l b).some c).0 e)
      by None e = none (at None e)

  refused_none : judged_half half w ≡ Err (Codeword half) → (c : List ℕ) → Near w c → ⊥
  refused_none e c n = by (crcs half c)
    where
      by : Crcs half c → ⊥
      by (right h k) = ok_err (sym k ∙ sym (at_near c n) ∙ e)
      by (wrong h k) = crc_code half (sym k ∙ sym (at_near c n) ∙ e)

  none_refused : ((c : List ℕ) → Near w c → ⊥) → judged_half half w ≡ Err (Codeword half)
  none_refused n = at None ((finds w l b).none.1 n)

  refused_crc : judged_half half w ≡ Err (Crc half) → WrongCrc w
  refused_crc e = by nears
    where
      by : Nears half w → WrongCrc w
      by (none k) = absurd (crc_code half (sym e ∙ k))
      by (one c n) = which (crcs half c)
        where
          which : Crcs half c → WrongCrc w
          which (right h k) = absurd (ok_err (sym k ∙ sym (at_near c n) ∙ e))
          which (wrong h k) = record { codeword = c; near = n; wrong = h }

  crc_refused : WrongCrc w → judged_half half w ≡ Err (Crc half)
  crc_refused h = at_near h.codeword h.near ∙ sym (crc_wrong half h.codeword h.wrong)

  ok_says : (x : Half) → judged_half half w ≡ Ok x → Says w x
  ok_says x e = by nears
    where
      same : {y : Half} → ◌≡◌ {A = Result Half FrameRefusal} (Ok x) (Ok y) → x ≡ y
      same d = cc

      by : Nears half w → Says w x
      by (none k) = absurd (ok_err (sym e ∙ k))
      by (one c n) = which (crcs half c)
        where
          which : Crcs half c → Says w x
          which (right h k) = record { codeword = c; near = n; right = h; is = same (sym e ∙ at_near c n ∙ k) }
          which (wrong h k) = absurd (ok_err (sym e ∙ at_near c n ∙ k))

  says_ok : (x : Half) → Says w x → judged_half half w ≡ Ok x
  says_ok x h = at_near h.codeword h.near ∙ sym (crc_right half h.codeword x h.right h.is)

  exact_half : ExactHalf half w
  exact_half = record {
    without_codeword = (refused_none, none_refused);
    with_wrong_crc = (refused_crc, crc_refused);
    read = λ x. (ok_says x, says_ok x);
  }

-- ---- the unique word
-- no half is refused for it
half_other : (half : ℕ) (w : List ℕ) → judged_half half w ≡ Err UniqueWord → ⊥
half_other half w = by (decoded w)
  where
    checked : (c : List ℕ) → Crcs half c → checked_half half c ≡ Err UniqueWord → ⊥
    checked c (right h k) e = let z : ◌≡◌ {A = ℕ} 0 1 = cc in omega arith
    checked c (wrong h k) e = let z : ◌≡◌ {A = ℕ} 0 1 = cc in omega arith

    by : (r : Result Corrected CodeRefusal) → half_from half r ≡ Err UniqueWord → ⊥
    by (Ok a) e = checked a.codeword (crcs half a.codeword) e
    by (Err f) e = let z : ◌≡◌ {A = ℕ} 0 1 = cc in omega arith

-- nor are both
halves_other : (u : ℕ) (a b : Result Half FrameRefusal) → (a ≡ Err UniqueWord → ⊥) → (b ≡ Err UniqueWord → ⊥) →
    and_then a (λ x. and_then b (λ y. Ok (frame_from u x y))) ≡ Err UniqueWord → ⊥
halves_other u (Err f) b p q e = p (let g : f ≡ UniqueWord = cc in ap Err g)
halves_other u (Ok x) (Err f) p q e = q (let g : f ≡ UniqueWord = cc in ap Err g)
halves_other u (Ok x) (Ok y) p q e = let z : ◌≡◌ {A = ℕ} 0 1 = cc in omega arith

module _ (w : List ℕ) where
  abbrev rest : ℕ → Result Frame FrameRefusal
  rest u = and_then (judged_half 1 (take 111 (drop 22 w))) (λ a. and_then (judged_half 2 (drop 133 w)) (λ b. Ok (frame_from u a b)))

  rest_other : (u : ℕ) → rest u ≡ Err UniqueWord → ⊥
  rest_other u = halves_other u (judged_half 1 (take 111 (drop 22 w))) (judged_half 2 (drop 133 w))
      (half_other 1 (take 111 (drop 22 w))) (half_other 2 (drop 133 w))

  refused_unique : judged w ≡ Err UniqueWord → NoUniqueWord w
  refused_unique = by (leb (distance (take 22 w) (unique_word 0)) 6) refl (leb (distance (take 22 w) (unique_word 1)) 6) refl
    where
      by : (s : Bool) → leb (distance (take 22 w) (unique_word 0)) 6 ≡ s → (t : Bool) → leb (distance (take 22 w) (unique_word 1)) 6 ≡ t →
          and_then (cond s (Ok 0) (cond t (Ok 1) (Err UniqueWord))) rest ≡ Err UniqueWord → NoUniqueWord w
      by true p t q e = absurd (rest_other 0 e)
      by false p true q e = absurd (rest_other 1 e)
      by false p false q e = (leb-false (distance (take 22 w) (unique_word 0)) 6 p, leb-false (distance (take 22 w) (unique_word 1)) 6 q)

  unique_refused : NoUniqueWord w → judged w ≡ Err UniqueWord
  unique_refused n =
      let p : leb (distance (take 22 w) (unique_word 0)) 6 ≡ false = lt-leb (distance (take 22 w) (unique_word 0)) 6 n.0 in
      let q : leb (distance (take 22 w) (unique_word 1)) 6 ≡ false = lt-leb (distance (take 22 w) (unique_word 1)) 6 n.1 in
      ap (λ (s : Bool). and_then (cond s (Ok 0) (cond (leb (distance (take 22 w) (unique_word 1)) 6) (Ok 1) (Err UniqueWord))) rest) p
      ∙ ap (λ (t : Bool). and_then (cond t (Ok 1) (Err UniqueWord)) rest) q

-- ---- a frame
-- the two unique words differ in every place, so no more than one lies within six places
words_apart : distance (unique_word 0) (unique_word 1) ≡ 22
unfolding bits distance
words_apart = refl

unique_near : (w : List ℕ) (u : ℕ) → u < 2 → length w ≡ 22 → distance w (unique_word u) ≤ 6 → unique_of w ≡ Ok u
unique_near w zero h l near = cond-true _ _ _ (le-leb (distance w (unique_word 0)) 6 near)
unique_near w (suc zero) h l near =
    let apart : 22 ≤ distance w (unique_word 0) + distance w (unique_word 1) =
    subst (λ (d : ℕ). d ≤ distance w (unique_word 0) + distance w (unique_word 1)) words_apart
    (distance_triangle w (unique_word 0) (unique_word 1) (l ∙ sym (length_bits 22 _)) (l ∙ sym (length_bits 22 _)))
    in
    let far : 6 < distance w (unique_word 0) = omega arith in
    cond-false _ _ _ (lt-leb (distance w (unique_word 0)) 6 far) ∙ cond-true _ _ _ (le-leb (distance w (unique_word 1)) 6 near)
unique_near w (suc (suc u)) h l near = absurd (omega arith)

-- what the parts are judged as
data Uniques (w : List ℕ) : Type 0 where
  has : (u : ℕ) → HasUniqueWord w u → unique_of (take 22 w) ≡ Ok u → Uniques w
  lacks : NoUniqueWord w → Uniques w

data Halves (half : ℕ) (w : List ℕ) : Type 0 where
  says : (x : Half) → Says w x → judged_half half w ≡ Ok x → Halves half w
  refuses : (e : FrameRefusal) → RefusedHalf half w e → judged_half half w ≡ Err e → Halves half w

uniques : (w : List ℕ) → Uniques w
uniques w = by (leb (distance (take 22 w) (unique_word 0)) 6) refl (leb (distance (take 22 w) (unique_word 1)) 6) refl
  where
    by : (s : Bool) → leb (distance (take 22 w) (unique_word 0)) 6 ≡ s → (t : Bool) → leb (distance (take 22 w) (unique_word 1)) 6 ≡ t → Uniques w
    by true p t q = has 0 (record { one_of_two = omega arith; near = leb-true (distance (take 22 w) (unique_word 0)) 6 p }) (cond-true _ _ _ p)
    by false p true q =
        has 1 (record { one_of_two = omega arith; near = leb-true (distance (take 22 w) (unique_word 1)) 6 q }) (cond-false _ _ _ p ∙ cond-true _ _ _ q)
    by false p false q = lacks (leb-false (distance (take 22 w) (unique_word 0)) 6 p, leb-false (distance (take 22 w) (unique_word 1)) 6 q)

halves : (half : ℕ) (w : List ℕ) → length w ≡ 111 → are_bits w ≡ true → Halves half w
halves half w l b = by (nears half w l b)
  where
    by : Nears half w → Halves half w
    by (none k) = refuses (Codeword half) (no_codeword (refused_none half w l b k)) k
    by (one c n) = which (crcs half c)
      where
        which : Crcs half c → Halves half w
        which (right h k) = says (understood (take 61 c)) (record { codeword = c; near = n; right = h; is = refl }) (at_near half w l b c n ∙ k)
        which (wrong h k) = refuses (Crc half) (wrong_crc (record { codeword = c; near = n; wrong = h })) (at_near half w l b c n ∙ k)

half_refused : (half : ℕ) (w : List ℕ) → length w ≡ 111 → are_bits w ≡ true → (e : FrameRefusal) → RefusedHalf half w e → judged_half half w ≡ Err e
half_refused half w l b e (no_codeword n) = none_refused half w l b n
half_refused half w l b e (wrong_crc h) = crc_refused half w l b h

module _ (w : List ℕ) (l : length w ≡ 244) (b : are_bits w ≡ true) where
  long_one : length (first_bits w) ≡ 111
  long_one = length-take-le 111 (drop 22 w) (omega (arith, length-drop 22 w))

  bits_one : are_bits (first_bits w) ≡ true
  bits_one = bits_take 111 (drop 22 w) (bits_drop 22 w b)

  long_two : length (second_bits w) ≡ 111
  long_two = length-drop 133 w ∙ omega arith

  bits_two : are_bits (second_bits w) ≡ true
  bits_two = bits_drop 133 w b

  refused_one : (u : ℕ) (e : FrameRefusal) → unique_of (take 22 w) ≡ Ok u → judged_half 1 (first_bits w) ≡ Err e → judged w ≡ Err e
  refused_one u e p q =
      ap (λ (x : Result ℕ FrameRefusal). and_then x (rest w)) p
      ∙ ap (λ (x : Result Half FrameRefusal). and_then x (λ a. and_then (judged_half 2 (second_bits w)) (λ c. Ok (frame_from u a c)))) q

  verdict : Verdict w (judged w)
  verdict = by (uniques w) (halves 1 (first_bits w) long_one bits_one) (halves 2 (second_bits w) long_two bits_two)
    where
      by : Uniques w → Halves 1 (first_bits w) → Halves 2 (second_bits w) → Verdict w (judged w)
      by (lacks n) x y = subst (Verdict w) (sym (unique_refused w n)) (no_unique_word n)
      by (has u h p) (refuses e r q) y = subst (Verdict w) (sym (refused_one u e p q)) (in_first u h r)
      by (has u h p) (says x s q) (refuses e r k) = subst (Verdict w) (judged_refused w u x p q e k) (in_second u h x s r)
      by (has u h p) (says x s q) (says y t k) = subst (Verdict w) (judged_whole w u x p q y k) (accepted u h x y s t)

  unique_ok : (u : ℕ) → HasUniqueWord w u → unique_of (take 22 w) ≡ Ok u
  unique_ok u h = unique_near (take 22 w) u h.one_of_two (length-take-le 22 w (omega arith)) h.near

  judged_so : (v : Result Frame FrameRefusal) → Verdict w v → judged w ≡ v
  judged_so v (no_unique_word n) = unique_refused w n
  judged_so v (in_first {e} u h r) = refused_one u e (unique_ok u h) (half_refused 1 (first_bits w) long_one bits_one e r)
  judged_so v (in_second {e} u h a s r) =
      sym (judged_refused w u a (unique_ok u h) (says_ok 1 (first_bits w) long_one bits_one a s) e
      (half_refused 2 (second_bits w) long_two bits_two e r))
  judged_so v (accepted u h x y s t) =
      sym (judged_whole w u x (unique_ok u h) (says_ok 1 (first_bits w) long_one bits_one x s) y (says_ok 2 (second_bits w) long_two bits_two y t))

pub exact_halves : ExactHalves
exact_halves = record {
  half = exact_half;
  without_unique_word = λ w l b. (refused_unique w, unique_refused w);
  frame = λ w l b v. ((λ e. subst (Verdict w) e (verdict w l b)), judged_so w l b v);
}
