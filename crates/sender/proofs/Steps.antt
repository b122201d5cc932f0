-- One bit more.
use Rattle.std.proofs.Common.{◌≡◌, ℕ, suc, ◌+◌, ◌<◌, ◌≤◌, Bool, true, false, cond, eqb, List, [], ◌∷◌, length, get_or, take, drop, sym, refl, ap, ◌∙◌, add-one, arith}
use Rattle.std.proofs.lemmas.List.{drop_more, drop_all, get_or-take, length-take-le}
use Rattle.std.proofs.lemmas.Bool.{eqb-true, eqb-false}
use Rattle.card.specs.Card.{CardValue}
use Rattle.sender.specs.Sending.{Sending, with_left, or_else, after_first}

-- a sender by its parts
pub same : (s : Sending) (c : CardValue) (number last size : ℕ) (left : List ℕ) → s.card ≡ c → s.number ≡ number → s.last ≡ last →
    s.size ≡ size → s.left ≡ left → s ≡ record { card = c; number = number; last = last; size = size; left = left }
same s c number last size left e f g h i =
    ap (λ x. record { card = x; number = s.number; last = s.last; size = s.size; left = s.left }) e
    ∙ ap (λ x. record { card = c; number = x; last = s.last; size = s.size; left = s.left }) f
    ∙ ap (λ x. record { card = c; number = number; last = x; size = s.size; left = s.left }) g
    ∙ ap (λ x. record { card = c; number = number; last = last; size = x; left = s.left }) h
    ∙ ap (λ x. record { card = c; number = number; last = last; size = size; left = x }) i

-- what is left of the first `size` of some bits once `sent` of them are sent
abbrev pub left_of : ℕ → ℕ → List ℕ → List ℕ
left_of sent size bits = drop sent (take size bits)

module _ (sent size : ℕ) (bits : List ℕ) (room : size ≤ length bits) (some : sent < size) where
  first_and_rest : left_of sent size bits ≡ get_or bits sent 0 ∷ left_of (sent + 1) size bits
  first_and_rest =
      drop_more (take size bits) sent 0 (omega (arith, length-take-le size bits room))
      ∙ ap (λ (b : ℕ). b ∷ left_of (sent + 1) size bits) (get_or-take size bits sent 0 some)

  pub first_is : get_or bits sent 0 ≡ get_or (left_of sent size bits) 0 0
  first_is = sym (ap (λ (l : List ℕ). get_or l 0 0) first_and_rest)

  -- the take's last bit, and any other
  pub last_sent : (s : Sending) → sent + 1 ≡ size →
      record { card = s.card; number = s.number + 1; last = get_or bits sent 0; size = s.size; left = left_of (sent + 1) size bits }
      ≡ after_first s (left_of sent size bits)
  unfolding after_first
  last_sent s e =
      let none : left_of (sent + 1) size bits ≡ [] = drop_all (sent + 1) (take size bits) (omega (arith, length-take-le size bits room)) in
      let standing : ℕ → List ℕ → Sending = λ n l. record { card = s.card; number = n; last = get_or bits sent 0; size = s.size; left = l } in
      ap (λ (n : ℕ). standing n (left_of (sent + 1) size bits)) (add-one s.number)
      ∙ ap (standing (suc s.number)) none
      ∙ sym (ap (after_first s) (first_and_rest ∙ ap (λ (l : List ℕ). get_or bits sent 0 ∷ l) none))

  pub more_left : (s : Sending) → (sent + 1 ≡ size → ⊥) → with_left (left_of (sent + 1) size bits) s ≡ after_first s (left_of sent size bits)
  unfolding after_first
  more_left s h =
      let rest : left_of (sent + 1) size bits ≡ get_or bits (sent + 1) 0 ∷ left_of (sent + 1 + 1) size bits =
      drop_more (take size bits) (sent + 1) 0 (omega (arith, length-take-le size bits room))
      ∙ ap (λ (b : ℕ). b ∷ left_of (sent + 1 + 1) size bits) (get_or-take size bits (sent + 1) 0 (omega arith))
      in
      ap (λ (l : List ℕ). with_left l s) rest
      ∙ sym (ap (after_first s) (first_and_rest ∙ ap (λ (l : List ℕ). get_or bits sent 0 ∷ l) rest))

  -- either way
  pub first_sent : (s s' : Sending) → s.left ≡ left_of sent size bits → s'.card ≡ s.card →
      s'.number ≡ cond (eqb (sent + 1) size) (s.number + 1) s.number → s'.last ≡ cond (eqb (sent + 1) size) (get_or bits sent 0) s.last →
      s'.size ≡ s.size → s'.left ≡ left_of (sent + 1) size bits → s' ≡ after_first s s.left
  first_sent s s' left c n l z r = by (eqb (sent + 1) size) refl n l
    where
      by : (t : Bool) → eqb (sent + 1) size ≡ t → s'.number ≡ cond t (s.number + 1) s.number →
          s'.last ≡ cond t (get_or bits sent 0) s.last → s' ≡ after_first s s.left
      by true e n' l' = same s' _ _ _ _ _ c n' l' z r ∙ last_sent s (eqb-true (sent + 1) size e) ∙ ap (after_first s) (sym left)
      by false e n' l' = same s' _ _ _ _ _ c n' l' z r ∙ more_left s (eqb-false (sent + 1) size e) ∙ ap (after_first s) (sym left)

  -- a take that is going out goes on
  pub goes_on : (next : List ℕ) → left_of sent size bits ≡ or_else (left_of sent size bits) next
  unfolding or_else
  goes_on next = first_and_rest ∙ sym (ap (λ (l : List ℕ). or_else l next) first_and_rest)

pub begins : (left next : List ℕ) → left ≡ [] → next ≡ or_else left next
unfolding or_else
begins left next e = sym (ap (λ (l : List ℕ). or_else l next) e)

pub left_same : {sent sent' size size' : ℕ} {bits bits' : List ℕ} → sent' ≡ sent → size' ≡ size → bits' ≡ bits →
    left_of sent' size' bits' ≡ left_of sent size bits
left_same e f g = cc
