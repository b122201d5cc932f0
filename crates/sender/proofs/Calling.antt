-- What a call answers, writes and leaves.
use Rattle.std.proofs.Common.{◌≡◌, ℕ, ◌≤◌, Bool, true, false, cond, eqb, leb, List, [], ◌∷◌, length, get_or, Ok, Err, Result, sym, refl, ap, ◌∙◌, arith}
use Rattle.std.proofs.lemmas.Bool.{eq-eqb, eqb-true, leb-true}
use Rattle.line.specs.Line.{Model}
use Rattle.chips.specs.Chips.{block}
use Rattle.chips.specs.Calls.{spread_answer, spread_output}
use Rattle.chips.specs.declared.refusal.BlockRefusal.{BlockRefusal}
use Rattle.sender.specs.declared.refusal.SenderRefusal.{SenderRefusal}
use Rattle.sender.specs.declared.refusal.SenderRefusal.TheVariants.{FrameNumber, BlockLength}
use Rattle.sender.specs.Sending.{Sending, with_left, or_else, to_send, after_first, next_bit, moved, call_answer, next_answer, if_accepted, next_output, next_sending}

-- nothing is to be sent only where nothing is left
none_left : (left next : List ℕ) → or_else left next ≡ [] → left ≡ []
unfolding or_else
none_left [] next e = refl
none_left (b ∷ left) next e = e

after_same : (s : Sending) (bits : List ℕ) → (bits ≡ [] → s.left ≡ []) → after_first (with_left bits s) bits ≡ after_first s bits
unfolding after_first
after_same s [] h = ap (λ (left : List ℕ). with_left left s) (sym (h refl))
after_same s (b ∷ []) h = refl
after_same s (b ∷ c ∷ bits) h = refl

-- an accepted call has room for a block, and a number that is not above the last
pub call_ok : (number room : ℕ) → Ok tt ≡ call_answer number room → (room ≡ 512) × (number ≤ 999_999_999)
call_ok number room h = by (eqb room 512) refl (leb number 999_999_999) refl h
  where
    by : (x : Bool) → eqb room 512 ≡ x → (y : Bool) → leb number 999_999_999 ≡ y →
        Ok (tt {0}) ≡ cond x (cond y (Ok (tt {0})) (Err FrameNumber)) (Err BlockLength) → (room ≡ 512) × (number ≤ 999_999_999)
    by true p true q e = (eqb-true room 512 p, leb-true number 999_999_999 q)
    by true p false q e = absurd (let z : ◌≡◌ {A = ℕ} 0 1 = cc in omega arith)
    by false p y q e = absurd (let z : ◌≡◌ {A = ℕ} 0 1 = cc in omega arith)

-- then spreading is not refused
pub not_refused : (number : ℕ) (out : List ℕ) (e : BlockRefusal) → Ok tt ≡ call_answer number (length out) → Err e ≡ spread_answer out → ⊥
not_refused number out e h k =
    let long = eq-eqb (length out) 512 (call_ok number (length out) h).0 in
    let never : Err e ≡ Ok (tt {0}) = rw long at k in
    let z : ◌≡◌ {A = ℕ} 0 1 = cc in
    omega arith

module _ (m : Model) (s : Sending) (out : List ℕ) where
  -- a refused call leaves all as it was
  pub refused : (e : SenderRefusal) → Err e ≡ next_answer s (length out) → (out ≡ next_output m s out) × (s ≡ next_sending m s (length out))
  unfolding next_output next_sending if_accepted
  refused e h = (
    ap (λ (r : Result (Unit {0}) SenderRefusal). if_accepted r (block (next_bit m s)) out) h,
    ap (λ (r : Result (Unit {0}) SenderRefusal). if_accepted r (moved m s) s) h,
  )

  -- in an accepted one the bit b was taken from those to be sent, and its block written
  pub accepted : (b : ℕ) (s' : Sending) (after : List ℕ) → Ok tt ≡ next_answer s (length out) → b ≡ get_or (to_send m s) 0 0 →
      s' ≡ after_first (with_left (to_send m s) s) (to_send m s) → after ≡ spread_output b out →
      (after ≡ next_output m s out) × (s' ≡ next_sending m s (length out))
  unfolding next_output next_sending if_accepted next_bit moved to_send
  accepted b s' after h bit is written =
      let long = eq-eqb (length out) 512 (call_ok s.number (length out) h).0 in (
        rw long at (written ∙ ap (λ (x : ℕ). spread_output x out) bit)
            ∙ ap (λ (r : Result (Unit {0}) SenderRefusal). if_accepted r (block (get_or (to_send m s) 0 0)) out) h,
        is ∙ after_same s (to_send m s) (none_left s.left _)
            ∙ ap (λ (r : Result (Unit {0}) SenderRefusal). if_accepted r (after_first s (to_send m s)) s) h,
      )
