-- What a reader answers to the blocks of takes: before a take's last block counted, and then what it answers to the take.
use Rattle.std.proofs.Common.{◌≡◌, ℕ, zero, suc, ◌+◌, ◌-◌, ◌<◌, ◌≤◌, true, false, eqb, List, [], ◌∷◌, ◌++◌, map, length, take, drop, replicate, Ok, Err, Result, sym, refl, ap, ◌∙◌, ap₂, arith}
use Rattle.std.specs.List.{AllByRecursion}
use Rattle.std.proofs.lemmas.List.{append_assoc, length_push, take-append-drop, length-take-le}
use Rattle.std.proofs.lemmas.Bool.{eq-eqb, ne_eqb}
use Rattle.card.specs.Card.{CardValue}
use Rattle.line.specs.Line.{Model}
use Rattle.line.specs.Calls.{decode_output}
use Rattle.frame.specs.Judging.{judged}
use Rattle.frame.specs.declared.carried.Frame.{Frame}
use Rattle.frame.specs.declared.refusal.FrameRefusal.{FrameRefusal}
use Rattle.chips.specs.Chips.{despread}
use Rattle.chips.specs.Laws.{IsBlock}
use Rattle.round.specs.Rounds.{Answer, Reading, Outcome, on_take}
use Rattle.round.specs.Rounds as rounds
use Rattle.round.specs.Rounds.Answer.{counted, passed_over, taken, closed}
use Rattle.round.specs.declared.refusal.TakeRefusal.{TakeRefusal}
use Rattle.sender.specs.Takes.{in_order}
use Rattle.round_laws.specs.TwoRounds.{refusals, closed_by, closed_cards, ClosesOnce}
use Rattle.carrier.specs.declared.refusal.ReaderRefusal.{ReaderRefusal}
use Rattle.carrier.specs.declared.refusal.ReaderRefusal.TheVariants.{Take}
use Rattle.carrier.specs.Receiving.{Receiving, Received, of_take, take_outcome, on_whole, on_bit, on_block, answers_to}

-- a reader that has heard these bits of a take of so many
abbrev pub hearing : List ℕ → ℕ → Reading → Receiving
hearing bits size r = record { heard = bits; size = size; reading = r }

-- the answers to the n + 1 blocks of a take
pub told : ℕ → Result Answer TakeRefusal → List (Result Answer ReaderRefusal)
told n a = replicate n (Ok counted) ++ (of_take a ∷ [])

module _ (m : Model) (size : ℕ) where
  -- ---- one block
  block_is : (s : Receiving) (b : List ℕ) → IsBlock b → on_block m s b ≡ on_bit m s (despread b)
  unfolding on_block
  block_is s b i = rw (eq-eqb (length b) 512 i.long)

  -- ---- the blocks of one take: b and then more, after some bits
  one_take : (more : List (List ℕ)) (b : List ℕ) (bits : List ℕ) (r : Reading) → length bits + suc (length more) ≡ size → AllByRecursion IsBlock (b ∷ more) →
      (rest : List (List ℕ)) →
      let o = take_outcome m r (bits ++ map despread (b ∷ more)) in
      answers_to m (hearing bits size r) ((b ∷ more) ++ rest) ≡ told (length more) o.answer ++ answers_to m (hearing [] size o.after) rest
  unfolding answers_to told on_bit on_whole
  one_take [] b bits r n a rest =
      let e : eqb (length bits + 1) size ≡ true = eq-eqb (length bits + 1) size (omega arith) in
      let is : on_block m (hearing bits size r) b ≡ on_whole m (hearing bits size r) (bits ++ (despread b ∷ [])) = block_is (hearing bits size r) b a.0 ∙ rw e in
      ap (λ (x : Received). x.answer ∷ answers_to m x.after rest) is
  one_take (b' ∷ more) b bits r n a rest =
      let e : eqb (length bits + 1) size ≡ false = ne_eqb (length bits + 1) size (λ z. omega arith) in
      let bits' = bits ++ (despread b ∷ []) in
      let is : on_block m (hearing bits size r) b ≡ record { answer = Ok counted; after = hearing bits' size r } = block_is (hearing bits size r) b a.0 ∙ rw e in
      let ih = one_take more b' bits' r (omega (arith, length_push bits (despread b))) a.1 rest in
      let joined : bits' ++ map despread (b' ∷ more) ≡ bits ++ map despread (b ∷ b' ∷ more) = append_assoc bits (despread b ∷ []) (map despread (b' ∷ more)) in
      ap (λ (x : Received). x.answer ∷ answers_to m x.after ((b' ∷ more) ++ rest)) is
      ∙ ap (λ (l : List (Result Answer ReaderRefusal)). Ok counted ∷ l) (
      ih
      ∙ ap (λ (z : List ℕ). told (length more) (take_outcome m r z).answer ++ answers_to m (hearing [] size (take_outcome m r z).after) rest) joined)

  -- a take that is judged as t
  whole_take_lem : (blocks : List (List ℕ)) (r : Reading) → length blocks ≡ size → 0 < size → AllByRecursion IsBlock blocks → (rest : List (List ℕ)) →
      (t : Result Frame FrameRefusal) → judged (decode_output m (map despread blocks) (replicate 244 0)) ≡ t →
      answers_to m (hearing [] size r) (blocks ++ rest)
      ≡ told (size - 1) (on_take r t).answer ++ answers_to m (hearing [] size (on_take r t).after) rest
  unfolding take_outcome
  whole_take_lem [] r l p a rest t j = absurd (omega arith)
  whole_take_lem (b ∷ more) r l p a rest t j =
      let n : length more ≡ size - 1 = omega arith in
      one_take more b [] r (omega arith) a rest
      ∙ ap₂ (λ (n : ℕ) (x : Result Frame FrameRefusal). told n (on_take r x).answer ++ answers_to m (hearing [] size (on_take r x).after) rest) n j

  -- ---- take after take: ts are what the takes are judged as
  abbrev pub Judged : List (Result Frame FrameRefusal) → List (List ℕ) → Type 0
  Judged [] blocks = length blocks ≡ 0
  Judged (t ∷ ts) blocks =
      (size ≤ length blocks) × AllByRecursion IsBlock (take size blocks)
      × (judged (decode_output m (map despread (take size blocks)) (replicate 244 0)) ≡ t) × Judged ts (drop size blocks)

  pub all_takes : (ts : List (Result Frame FrameRefusal)) (blocks : List (List ℕ)) (r : Reading) → 0 < size → Judged ts blocks →
      answers_to m (hearing [] size r) blocks ≡ in_order (map (told (size - 1)) (rounds.answers_to r ts))
  unfolding in_order rounds.answers_to
  all_takes [] [] r p j = unfold answers_to in refl
  all_takes [] (b ∷ blocks) r p j = absurd (omega arith)
  all_takes (t ∷ ts) blocks r p j =
      let here = take size blocks in
      let rest = drop size blocks in
      ap (answers_to m (hearing [] size r)) (sym (take-append-drop size blocks))
      ∙ whole_take_lem here r (length-take-le size blocks j.0) p j.1 rest t j.2
      ∙ ap (λ (l : List (Result Answer ReaderRefusal)). told (size - 1) (on_take r t).answer ++ l) (all_takes ts rest (on_take r t).after p j.3)

-- ---- what answers to blocks refuse and close is what answers to takes do
pub refusals_append : {E : Type 0} (xs ys : List (Result Answer E)) → refusals (xs ++ ys) ≡ refusals xs ++ refusals ys
unfolding refusals
refusals_append [] ys = refl
refusals_append (Ok a ∷ xs) ys = refusals_append xs ys
refusals_append (Err e ∷ xs) ys = ap (λ l. e ∷ l) (refusals_append xs ys)

pub closed_append : {E : Type 0} (xs ys : List (Result Answer E)) → closed_cards (xs ++ ys) ≡ closed_cards xs ++ closed_cards ys
unfolding closed_cards
closed_append [] ys = refl
closed_append (Ok a ∷ xs) ys = ap (λ (l : List CardValue). closed_by a ++ l) (closed_append xs ys) ∙ sym (append_assoc (closed_by a) (closed_cards xs) (closed_cards ys))
closed_append (Err e ∷ xs) ys = closed_append xs ys

refusals_told : (n : ℕ) (a : Result Answer TakeRefusal) → refusals (told n a) ≡ map Take (refusals (a ∷ []))
unfolding refusals told
refusals_told zero (Ok a) = refl
refusals_told zero (Err e) = refl
refusals_told (suc n) a = refusals_told n a

closed_told : (n : ℕ) (a : Result Answer TakeRefusal) → closed_cards (told n a) ≡ closed_cards (a ∷ [])
unfolding closed_cards closed_by told
closed_told zero (Ok a) = refl
closed_told zero (Err e) = refl
closed_told (suc n) a = closed_told n a

pub refusals_all : (n : ℕ) (xs : List (Result Answer TakeRefusal)) → refusals xs ≡ [] → refusals (in_order (map (told n) xs)) ≡ []
unfolding in_order refusals
refusals_all n [] h = refl
refusals_all n (Ok a ∷ xs) h = refusals_append (told n (Ok a)) (in_order (map (told n) xs)) ∙ ap₂ ◌++◌ (refusals_told n (Ok a)) (refusals_all n xs h)
refusals_all n (Err e ∷ xs) h = absurd (let z : ◌≡◌ {A = ℕ} 0 1 = cc in omega arith)

pub closed_all : (n : ℕ) (xs : List (Result Answer TakeRefusal)) → closed_cards (in_order (map (told n) xs)) ≡ closed_cards xs
unfolding in_order
closed_all n [] = unfold closed_cards in refl
closed_all n (a ∷ xs) =
    closed_append (told n a) (in_order (map (told n) xs))
    ∙ ap₂ (λ (x y : List CardValue). x ++ y) (closed_told n a) (closed_all n xs)
    ∙ sym (closed_append (a ∷ []) xs)

pub closes_once : (n : ℕ) (c : CardValue) (xs : List (Result Answer TakeRefusal)) → ClosesOnce c xs → ClosesOnce c (in_order (map (told n) xs))
closes_once n c xs h = record { accepted = refusals_all n xs h.accepted; closes = closed_all n xs ∙ h.closes }
