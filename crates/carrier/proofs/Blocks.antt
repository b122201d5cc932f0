-- One block more.
use Rattle.std.proofs.Common.{◌≡◌, ℕ, ◌+◌, ◌<◌, Bool, true, false, cond, eqb, List, [], ◌∷◌, ◌++◌, length, Ok, Err, refl, ap, ◌∙◌, arith}
use Rattle.std.proofs.lemmas.Bool.{eq-eqb, ne_eqb}
use Rattle.line.specs.Line.{Model}
use Rattle.chips.specs.Chips.{despread}
use Rattle.chips.specs.Calls.{despread_answer}
use Rattle.chips.specs.declared.refusal.BlockRefusal.{BlockRefusal}
use Rattle.chips.specs.declared.refusal.BlockRefusal.TheVariants.{WrongLength}
use Rattle.round.specs.Rounds.{Reading}
use Rattle.round.specs.Rounds.Answer.{counted}
use Rattle.carrier.specs.declared.refusal.ReaderRefusal.TheVariants.{BlockLength}
use Rattle.carrier.specs.Receiving.{Receiving, of_take, take_outcome, on_whole, on_bit, on_block}

module _ (m : Model) (s : Receiving) (block : List ℕ) where
  pub no_block : (e : BlockRefusal) → Err e ≡ despread_answer block → on_block m s block ≡ record { answer = Err BlockLength; after = s }
  unfolding on_block
  no_block e h = by (eqb (length block) 512) h
    where
      by : (t : Bool) → Err e ≡ cond t (Ok (despread block)) (Err WrongLength) →
          cond t (on_bit m s (despread block)) (record { answer = Err BlockLength; after = s }) ≡ record { answer = Err BlockLength; after = s }
      by true k = absurd (let z : ◌≡◌ {A = ℕ} 0 1 = cc in omega arith)
      by false k = refl

  pub a_block : (bit : ℕ) → Ok bit ≡ despread_answer block → on_block m s block ≡ on_bit m s bit
  unfolding on_block
  a_block bit h = by (eqb (length block) 512) h
    where
      by : (t : Bool) → Ok bit ≡ cond t (Ok (despread block)) (Err WrongLength) →
          cond t (on_bit m s (despread block)) (record { answer = Err BlockLength; after = s }) ≡ on_bit m s bit
      by true k = let e : despread block ≡ bit = cc in ap (on_bit m s) e
      by false k = absurd (let z : ◌≡◌ {A = ℕ} 0 1 = cc in omega arith)

-- ---- with a bit more the take is whole, or not
module _ (m : Model) (s : Receiving) (bit : ℕ) where
  pub not_whole : length s.heard + 1 < s.size →
      on_bit m s bit ≡ record { answer = Ok counted; after = record { heard = s.heard ++ (bit ∷ []); size = s.size; reading = s.reading } }
  unfolding on_bit
  not_whole h = let ne : length s.heard + 1 ≡ s.size → ⊥ = λ e. omega arith in rw (ne_eqb (length s.heard + 1) s.size ne)

  pub whole : length s.heard + 1 ≡ s.size →
      on_bit m s bit
      ≡ record {
        answer = of_take (take_outcome m s.reading (s.heard ++ (bit ∷ []))).answer;
        after = record { heard = []; size = s.size; reading = (take_outcome m s.reading (s.heard ++ (bit ∷ []))).after };
      }
  unfolding on_bit on_whole
  whole e = rw (eq-eqb (length s.heard + 1) s.size e)

-- a reader by its parts
pub same : (s : Receiving) (heard : List ℕ) (size : ℕ) (r : Reading) → s.heard ≡ heard → s.size ≡ size → s.reading ≡ r →
    s ≡ record { heard = heard; size = size; reading = r }
same s heard size r e f g =
    ap (λ (x : List ℕ). record { heard = x; size = s.size; reading = s.reading }) e
    ∙ ap (λ (x : ℕ). record { heard = heard; size = x; reading = s.reading }) f
    ∙ ap (λ (x : Reading). record { heard = heard; size = size; reading = x }) g
