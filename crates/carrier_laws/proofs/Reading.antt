-- What a reader keeps after any blocks, and when it closes a card.
use Rattle.std.proofs.Common.{◌≡◌, ℕ, ◌+◌, ◌<◌, ◌≤◌, Bool, true, false, eqb, List, [], ◌∷◌, ◌++◌, length, Ok, Err, Result, sym, refl, ap, ◌∙◌, arith}
use Rattle.std.proofs.lemmas.List.{append_assoc, append-nil, length_push}
use Rattle.std.proofs.lemmas.Bool.{eqb-true, eqb-false}
use Rattle.card.specs.Card.{CardValue}
use Rattle.line.specs.Line.{Model}
use Rattle.frame.specs.declared.carried.Frame.{Frame}
use Rattle.frame.specs.declared.refusal.FrameRefusal.{FrameRefusal}
use Rattle.chips.specs.Chips.{despread}
use Rattle.sender.specs.Takes.{in_order}
use Rattle.round.specs.Rounds.{Answer, Reading, fresh, on_take, reading_after}
use Rattle.round.specs.Rounds.Answer.{counted, closed}
use Rattle.round.specs.declared.refusal.TakeRefusal.{TakeRefusal}
use Rattle.round_laws.specs.Closings.{EndsWithRound, BeginsRound}
use Rattle.round_laws.proofs.ExactAnswers.{closings}
use Rattle.carrier.specs.Receiving.{Receiving, Received, of_take, take_outcome, on_whole, on_bit, on_block, receiving_after}
use Rattle.carrier.specs.declared.refusal.ReaderRefusal.{ReaderRefusal}
use Rattle.carrier.specs.declared.refusal.ReaderRefusal.TheVariants.{BlockLength}
use Rattle.carrier.proofs.Heard.{hearing}
use Rattle.carrier_laws.specs.Blocks.{heard_bits, Pieces, judged_take, judged_takes, ClosedOnlyByRounds}

-- what a whole take brings
abbrev whole_take : Model → ℕ → Reading → List ℕ → Received
whole_take m size r bits =
    record { answer = of_take (on_take r (judged_take m bits)).answer; after = hearing [] size (on_take r (judged_take m bits)).after }

-- ---- one block more, after the bits of an unfinished take: no block, a bit more, or the take is whole
data Step (m : Model) (size : ℕ) (piece : List ℕ) (r : Reading) (b : List ℕ) : Type 0 where
  none : eqb (length b) 512 ≡ false → on_block m (hearing piece size r) b ≡ record { answer = Err BlockLength; after = hearing piece size r } →
      Step m size piece r b
  more : eqb (length b) 512 ≡ true → length piece + 1 < size →
      on_block m (hearing piece size r) b ≡ record { answer = Ok counted; after = hearing (piece ++ (despread b ∷ [])) size r } →
      Step m size piece r b
  whole : eqb (length b) 512 ≡ true → length piece + 1 ≡ size →
      on_block m (hearing piece size r) b ≡ whole_take m size r (piece ++ (despread b ∷ [])) →
      Step m size piece r b

module _ (m : Model) (size : ℕ) where
  step : (piece : List ℕ) (r : Reading) (b : List ℕ) → length piece < size → Step m size piece r b
  step piece r b h = by (eqb (length b) 512) refl (eqb (length piece + 1) size) refl
    where
      by : (s : Bool) → eqb (length b) 512 ≡ s → (t : Bool) → eqb (length piece + 1) size ≡ t → Step m size piece r b
      by false e t f = none e (unfold on_block in rw e)
      by true e false f =
          let ne : length piece + 1 ≡ size → ⊥ = eqb-false (length piece + 1) size f in
          more e (below (length piece + 1) size ne (omega arith)) (unfold on_block on_bit in rw (e, f))
        where
          below : (x y : ℕ) → (x ≡ y → ⊥) → x ≤ y → x < y
          below x y n l = omega arith
      by true e true f = whole e (eqb-true (length piece + 1) size f) (unfold on_block on_bit on_whole take_outcome in rw (e, f))

  -- ---- all blocks
  record Walked (piece : List ℕ) (r : Reading) (blocks : List (List ℕ)) : Type 0 where
    pieces : Pieces size (piece ++ heard_bits blocks)
    keeps :
        receiving_after m (hearing piece size r) blocks
        ≡ hearing pieces.rest size (reading_after r (judged_takes m pieces.wholes))

  -- where the bits are the same by another way
  abbrev again : {bits bits' : List ℕ} → bits ≡ bits' → (p : Pieces size bits) → Pieces size bits'
  again e p = record { wholes = p.wholes; rest = p.rest; parts = sym e ∙ p.parts; long = p.long; shorter = p.shorter }

  module _ (b : List ℕ) (blocks : List (List ℕ)) (ih : (piece : List ℕ) (r : Reading) → length piece < size → Walked piece r blocks)
      (piece : List ℕ) (r : Reading) (h : length piece < size) where
    after_step : Step m size piece r b → Walked piece r (b ∷ blocks)
    unfolding receiving_after heard_bits
    after_step (none e k) =
        let w = ih piece r h in
        let same : heard_bits blocks ≡ heard_bits (b ∷ blocks) = rw e in
        record {
          pieces = again (ap (λ (l : List ℕ). piece ++ l) same) w.pieces;
          keeps = ap (λ (x : Received). receiving_after m x.after blocks) k ∙ w.keeps;
        }
    after_step (more e l k) =
        let w = ih (piece ++ (despread b ∷ [])) r (omega (arith, length_push piece (despread b))) in
        let same : despread b ∷ heard_bits blocks ≡ heard_bits (b ∷ blocks) = rw e in
        record {
          pieces = again (append_assoc piece (despread b ∷ []) (heard_bits blocks) ∙ ap (λ (l : List ℕ). piece ++ l) same) w.pieces;
          keeps = ap (λ (x : Received). receiving_after m x.after blocks) k ∙ w.keeps;
        }
    after_step (whole e l k) =
        let here = piece ++ (despread b ∷ []) in
        let w = ih [] (on_take r (judged_take m here)).after (omega arith) in
        let p = w.pieces in
        let same : despread b ∷ heard_bits blocks ≡ heard_bits (b ∷ blocks) = rw e in
        let parts : piece ++ heard_bits (b ∷ blocks) ≡ in_order (here ∷ p.wholes) ++ p.rest =
        ap (λ (l : List ℕ). piece ++ l) (sym same)
        ∙ sym (append_assoc piece (despread b ∷ []) (heard_bits blocks))
        ∙ ap (λ (l : List ℕ). here ++ l) p.parts
        ∙ sym (append_assoc here (in_order p.wholes) p.rest)
        ∙ unfold in_order in refl
        in
        record {
          pieces = record {
            wholes = here ∷ p.wholes;
            rest = p.rest;
            parts = parts;
            long = (length_push piece (despread b) ∙ l, p.long);
            shorter = p.shorter;
          };
          keeps = ap (λ (x : Received). receiving_after m x.after blocks) k ∙ w.keeps ∙ unfold reading_after in refl;
        }

  walked : (blocks : List (List ℕ)) (piece : List ℕ) (r : Reading) → length piece < size → Walked piece r blocks
  walked [] piece r h = record {
    pieces = record { wholes = []; rest = piece; parts = unfold heard_bits in_order in append-nil piece; long = tt; shorter = h };
    keeps = unfold receiving_after reading_after in refl;
  }
  walked (b ∷ blocks) piece r h = after_step b blocks (walked blocks) piece r h (step piece r b h)

  -- ---- where a card is closed
  of_take_lem : (a : Result Answer TakeRefusal) (d : CardValue) → of_take a ≡ Ok (closed d) → a ≡ Ok (closed d)
  of_take_lem (Ok a) d e = let s : a ≡ closed d = cc in ap Ok s
  of_take_lem (Err f) d e = absurd (let z : ◌≡◌ {A = ℕ} 0 1 = cc in omega arith)

  closing : (ts : List (Result Frame FrameRefusal)) (piece : List ℕ) (b : List ℕ) (d : CardValue) → length piece < size →
      (on_block m (hearing piece size (reading_after fresh ts)) b).answer ≡ Ok (closed d) →
      EndsWithRound d ts × BeginsRound d (judged_take m (piece ++ (despread b ∷ [])))
  closing ts piece b d h a = by (step piece (reading_after fresh ts) b h)
    where
      by : Step m size piece (reading_after fresh ts) b → EndsWithRound d ts × BeginsRound d (judged_take m (piece ++ (despread b ∷ [])))
      by (none e k) = absurd (no (sym (ap (λ (x : Received). x.answer) k) ∙ a))
        where
          no : ◌≡◌ {A = Result Answer ReaderRefusal} (Err BlockLength) (Ok (closed d)) → ⊥
          no q = let z : ◌≡◌ {A = ℕ} 0 1 = cc in omega arith
      by (more e l k) = absurd (no (sym (ap (λ (x : Received). x.answer) k) ∙ a))
        where
          no : ◌≡◌ {A = Result Answer ReaderRefusal} (Ok counted) (Ok (closed d)) → ⊥
          no q = let z : ◌≡◌ {A = ℕ} 0 1 = cc in omega arith
      by (whole e l k) =
          closings ts (judged_take m (piece ++ (despread b ∷ []))) d (of_take_lem _ d (sym (ap (λ (x : Received). x.answer) k) ∙ a))

pub closed_only : ClosedOnlyByRounds
closed_only m some blocks =
    let size = m.line_length 244 in
    let w = walked m size blocks [] fresh (omega arith) in
    record {
      pieces = w.pieces;
      keeps = w.keeps;
      closes = λ block d e.
          closing m size (judged_takes m w.pieces.wholes) w.pieces.rest block d w.pieces.shorter
          (sym (ap (λ (x : Receiving). (on_block m x block).answer) w.keeps) ∙ e);
    }
