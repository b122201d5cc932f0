-- What a sender for two rounds writes.
use Rattle.std.proofs.Common.{◌≡◌, ℕ, zero, suc, ◌+◌, ◌*◌, ◌<◌, ◌≤◌, Bool, true, false, cond, ltb, leb, List, [], ◌∷◌, map, length, Ok, Err, Option, Result, sym, refl, ap, ◌∙◌, arith}
use lib.ListN.{length-map}
use Rattle.std.proofs.lemmas.Bool.{ltb-true, leb-true}
use Rattle.card.specs.Card.{CardValue, on_ok}
use Rattle.content.specs.Sequence.{round_length}
use Rattle.line.specs.Line.{Model, LineRules}
use Rattle.sender.specs.Sending.{Sending, started, next_answer, next_output, next_sending}
use Rattle.sender.specs.Takes.{room, called, calls, after_calls, takes_of, in_order, BetweenTakes}
use Rattle.sender.specs.declared.refusal.SenderRefusal.{SenderRefusal}
use Rattle.sender.specs.declared.refusal.SenderRefusal.TheVariants.{FrameNotTaken, LastBit, FrameNumber}
use Rattle.sender.proofs.Takes.{sends_takes}
use Rattle.carrier.specs.declared.refusal.ReaderRefusal.{ReaderRefusal}
use Rattle.carrier.specs.Receiving.{Receiving, fresh_of}
use Rattle.carrier.specs.Receiving as receiving
use Rattle.carrier.specs.Passing.{Passed, numbers_last, after_start, two_rounds_answer, CameOf}

-- a sender that was made stands between takes
pub record Made (m : Model) (c : CardValue) (number last : ℕ) (s : Sending) : Type 0 where
  pub takes : m.takes 244 ≡ true
  pub is : s ≡ record { card = c; number = number; last = last; size = m.line_length 244; left = [] }
  pub between : BetweenTakes m s

pub made_sender : (m : Model) (c : CardValue) (number last : ℕ) (s : Sending) → started m c number last ≡ Ok s → Made m c number last s
unfolding started
made_sender m c number last s e = by (m.takes 244) refl (ltb last 2) refl (leb number 999_999_999) e
  where
    by : (x : Bool) → m.takes 244 ≡ x → (y : Bool) → ltb last 2 ≡ y → (z : Bool) →
        cond x (on_ok (λ _. record { card = c; number = number; last = last; size = m.line_length 244; left = [] })
        (cond y (cond z (Ok (tt {0})) (Err FrameNumber)) (Err LastBit))) (Err FrameNotTaken) ≡ Ok s → Made m c number last s
    by true p true q true h =
        let is : s ≡ record { card = c; number = number; last = last; size = m.line_length 244; left = [] } = cc in
        record {
          takes = p;
          is = is;
          between = record {
            size = ap (λ (x : Sending). x.size) is;
            none_left = ap (λ (x : Sending). x.left) is;
            bit = rw (ap (λ (x : Sending). x.last) is) (ltb-true last 2 q);
          };
        }
    by true p true q false h = absurd (let z : ◌≡◌ {A = ℕ} 0 1 = cc in omega arith)
    by true p false q z h = absurd (let z : ◌≡◌ {A = ℕ} 0 1 = cc in omega arith)
    by false p y q z h = absurd (let z : ◌≡◌ {A = ℕ} 0 1 = cc in omega arith)

-- calls that wrote blocks were accepted, each of them
module _ (m : Model) where
  accepted_one : (s : Sending) (b : List ℕ) → called m s ≡ Ok b → next_answer s 512 ≡ Ok tt
  unfolding called
  accepted_one s b e = by (next_answer s 512) e
    where
      by : (r : Result (Unit {0}) SenderRefusal) → on_ok (λ _. next_output m s room) r ≡ Ok b → r ≡ Ok tt
      by (Ok u) h = refl
      by (Err f) h = absurd (let z : ◌≡◌ {A = ℕ} 0 1 = cc in omega arith)

  pub accepted_all : (n : ℕ) (s : Sending) (bs : List (List ℕ)) → calls m n s ≡ map Ok bs → (i : ℕ) → i < n → next_answer (after_calls m i s) 512 ≡ Ok tt
  unfolding calls after_calls
  accepted_all zero s bs e i h = absurd (omega arith)
  accepted_all (suc n) s [] e i h = absurd (let z : ◌≡◌ {A = ℕ} 0 1 = cc in omega arith)
  accepted_all (suc n) s (b ∷ bs) e zero h = let one : called m s ≡ Ok b = cc in accepted_one s b one
  accepted_all (suc n) s (b ∷ bs) e (suc i) h =
      let rest : calls m n (next_sending m s (length room)) ≡ map Ok bs = cc in
      accepted_all n (next_sending m s (length room)) bs rest i (omega arith)

  calls_length : (n : ℕ) (s : Sending) → length (calls m n s) ≡ n
  unfolding calls
  calls_length zero s = refl
  calls_length (suc n) s = ap suc (calls_length n (next_sending m s (length room)))

  pub sent_length : (n : ℕ) (s : Sending) (bs : List (List ℕ)) → calls m n s ≡ map Ok bs → length bs ≡ n
  sent_length n s bs e = sym (length-map bs Ok) ∙ sym (ap length e) ∙ calls_length n s

-- the frame numbers last
numbers_last_lem : (c : CardValue) (number : ℕ) → Ok tt ≡ numbers_last c number → number + 2 * round_length c ≤ 1_000_000_000
numbers_last_lem c number h = by (leb (number + 2 * round_length c) 1_000_000_000) refl h
  where
    by : (t : Bool) → leb (number + 2 * round_length c) 1_000_000_000 ≡ t → Ok (tt {0}) ≡ cond t (Ok (tt {0})) (Err FrameNumber) →
        number + 2 * round_length c ≤ 1_000_000_000
    by true e h = leb-true (number + 2 * round_length c) 1_000_000_000 e
    by false e h = absurd (let z : ◌≡◌ {A = ℕ} 0 1 = cc in omega arith)

-- ---- two rounds
module _ (m : Model) (rules : LineRules m) (c : CardValue) (number last : ℕ) (eight : length c.identifier ≡ 8) (s : Sending)
    (starts : started m c number last ≡ Ok s) (numbers : Ok tt ≡ numbers_last c number) where
  made : Made m c number last s
  made = made_sender m c number last s starts

  abbrev pub sent : List (List ℕ)
  sent = in_order (takes_of m s.card (2 * round_length c) s.number s.last)

  pub writes : calls m (2 * round_length c * m.line_length 244) s ≡ map Ok sent
  writes =
      let card : s.card ≡ c = ap (λ (x : Sending). x.card) made.is in
      let at : s.number ≡ number = ap (λ (x : Sending). x.number) made.is in
      (sends_takes m rules made.takes (2 * round_length c) s made.between (rw card eight) (rw at (numbers_last_lem c number numbers))).blocks

  pub each_accepted : (i : ℕ) → i < 2 * round_length c * m.line_length 244 → next_answer (after_calls m i s) 512 ≡ Ok tt
  each_accepted = accepted_all m (2 * round_length c * m.line_length 244) s sent writes

  pub reader_made : (r : Receiving) → Ok r ≡ receiving.started m → r ≡ fresh_of (m.line_length 244)
  unfolding receiving.started
  reader_made r h = let k = rw made.takes at h in cc

  pub no_refusal : (e : ReaderRefusal) → Err e ≡ receiving.started m → ⊥
  unfolding receiving.started
  no_refusal e h = let k = rw made.takes at h in let z : ◌≡◌ {A = ℕ} 0 1 = cc in omega arith

  pub came_of : (refused closed : ℕ) (card : Option CardValue) (after : Receiving) →
      Passed m (2 * round_length c * m.line_length 244) (fresh_of (m.line_length 244)) refused closed after → card ≡ after.reading.card →
      CameOf m c number last refused closed card
  came_of refused closed card after p e = record {
    sender = s;
    starts = starts;
    sent = sent;
    writes = writes;
    after = after;
    passed = rw (sent_length m (2 * round_length c * m.line_length 244) s sent writes) p;
    closed_card = e;
  }

  pub answered : Ok tt ≡ two_rounds_answer m c number last
  answered = numbers ∙ sym (ap (after_start c number) starts)
