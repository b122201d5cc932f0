-- The search through the ball finds the codeword within six places.
use Rattle.std.proofs.Common.{◌≡◌, ℕ, Bool, true, false, cond, ◌⊎◌, List, [], ◌∷◌, length, take, Some, None, Option, sym, refl, ap, ◌∙◌, subst, inl, inr, ⊎_elim, arith, length-take, take_at}
use Rattle.std.proofs.lemmas.Bool.{eq-eqb, eqb-true, both_ways}
use Rattle.coding.specs.Bits.{are_bits, bits}
use Rattle.coding.specs.Distance.{distance}
use Rattle.coding.proofs.Words.{bits_take}
use Rattle.coding.proofs.Distances.{distance_zero, distance_self, distance_triangle}
use Rattle.field.specs.Code.{parity, encode, Codeword}
use Rattle.field.proofs.Differences.{word_length, word_bits, far}
use Rattle.bch.specs.Nearest.{ball, re_encodes, first, nearest, Near, Finds}
use Rattle.bch.proofs.Balls.{All, In, Inside, ball_inside, in_ball}

-- ---- the first that passes
first_at : (P : List ℕ → Type 0) (p : List ℕ → Bool) (w c : List ℕ) (t : Bool) (rest : Option (List ℕ)) → p w ≡ t → P w
    → (rest ≡ Some c → P c × (p c ≡ true)) → cond t (Some w) rest ≡ Some c → P c × (p c ≡ true)
first_at P p w c true rest e h k q = let s : w ≡ c = cc in (subst P s h, subst (λ (z : List ℕ). p z ≡ true) s e)
first_at P p w c false rest e h k q = k q

first_found : (P : List ℕ → Type 0) (p : List ℕ → Bool) (ws : List (List ℕ)) (c : List ℕ) → All P ws → first p ws ≡ Some c
    → P c × (p c ≡ true)
unfolding first
first_found P p [] c h e = let z : ◌≡◌ {A = ℕ} 0 1 = cc in absurd (omega arith)
first_found P p (w ∷ ws) c h e = first_at P p w c (p w) (first p ws) refl h.0 (λ q. first_found P p ws c h.1 q) e

first_here : (p : List ℕ → Bool) (w c : List ℕ) (t : Bool) (rest : Option (List ℕ)) → p w ≡ t → (c ≡ w) ⊎ ((d : List ℕ) × (rest ≡ Some d))
    → p c ≡ true → (d : List ℕ) × (cond t (Some w) rest ≡ Some d)
first_here p w c true rest e i h = (w, refl)
first_here p w c false rest e i h = ⊎_elim (λ s. absurd (both_ways (p w) e (ap p (sym s) ∙ h))) (λ r. r) i

first_some : (p : List ℕ → Bool) (ws : List (List ℕ)) (c : List ℕ) → In c ws → p c ≡ true → (d : List ℕ) × (first p ws ≡ Some d)
unfolding first
first_some p [] c i h = absurd i
first_some p (w ∷ ws) c i h = first_here p w c (p w) (first p ws) refl (⊎_elim (λ e. inl e) (λ j. inr (first_some p ws c j h)) i) h

-- ---- the codeword within six places
-- a word of 111 bits that is its own re-encoding is a codeword, and a codeword is that
re_encoded : (c : List ℕ) → length c ≡ 111 → are_bits c ≡ true → re_encodes c ≡ true → Codeword c
unfolding re_encodes
re_encoded c l b e =
    record {
      message = take 69 c;
      sixty_nine = simp length-take (omega arith);
      bit = bits_take 69 c b;
      is = distance_zero c (encode (take 69 c)) (eqb-true (distance c (encode (take 69 c))) 0 e);
    }

re_encodes_lem : (c : List ℕ) → Codeword c → re_encodes c ≡ true
unfolding re_encodes encode
re_encodes_lem c k =
    let m : take 69 c ≡ k.message = ap (take 69) k.is ∙ take_at k.message (bits 42 (parity k.message)) 69 k.sixty_nine in
    let e : encode (take 69 c) ≡ c = ap encode m ∙ sym k.is in
    eq-eqb (distance c (encode (take 69 c))) 0 (ap (distance c) e ∙ distance_self c)

-- two codewords within six places of one word are within twelve of each other, so they are one
pub one_near : (w u c : List ℕ) → length w ≡ 111 → Near w u → Near w c → u ≡ c
one_near w u c l a b =
    far u c a.code b.code
    (omega (arith, distance_triangle w u c (l ∙ sym (word_length u a.code)) (l ∙ sym (word_length c b.code)), a.near, b.near))

module _ (w : List ℕ) (l : length w ≡ 111) (b : are_bits w ≡ true) where
  nearest_near : (c : List ℕ) → nearest w ≡ Some c → Near w c
  unfolding nearest
  nearest_near c e =
      let p = first_found (Inside 6 w) re_encodes (ball 6 w) c (ball_inside 6 w b) e in
      record { code = re_encoded c (p.0.long ∙ l) p.0.bit p.1; near = p.0.near }

  pub near_nearest : (c : List ℕ) → Near w c → nearest w ≡ Some c
  unfolding nearest
  near_nearest c a =
      let i : In c (ball 6 w) = in_ball 6 w c b (word_bits c a.code) (word_length c a.code ∙ sym l) a.near in
      let s = first_some re_encodes (ball 6 w) c i (re_encodes_lem c a.code) in
      s.1 ∙ ap Some (one_near w s.0 c l (nearest_near s.0 s.1) a)

  none_by : (r : Option (List ℕ)) → nearest w ≡ r → ((c : List ℕ) → Near w c → ⊥) → nearest w ≡ None
  none_by (Some c) e n = absurd (n c (nearest_near c e))
  none_by None e n = e

  pub none_nearest : ((c : List ℕ) → Near w c → ⊥) → nearest w ≡ None
  none_nearest n = none_by (nearest w) refl n

  nearest_none : nearest w ≡ None → (c : List ℕ) → Near w c → ⊥
  nearest_none e c a = let s : nearest w ≡ Some c = near_nearest c a in let z : ◌≡◌ {A = ℕ} 0 1 = cc in omega arith

  pub finds : Finds w
  finds = record { some = λ c. (nearest_near c, near_nearest c); none = (nearest_none, none_nearest) }
