-- From between takes on, calls write take after take.
use Rattle.std.proofs.Common.{◌≡◌, ℕ, zero, suc, ◌+◌, ◌-◌, ◌*◌, ◌<◌, ◌≤◌, true, List, [], ◌∷◌, ◌++◌, map, length, get_or, replicate, Ok, Result, sym, refl, ap, ◌∙◌, subst, ap₂, add-zero, suc-mul, suc-add, zero-add, zero-mul, arith}
use Rattle.std.proofs.lemmas.List.{map-append, length-replicate}
use Rattle.std.proofs.lemmas.Bool.{le-leb}
use Rattle.coding.proofs.Words.{bit_at}
use Rattle.card.specs.Card.{CardValue, on_ok}
use Rattle.line.specs.Line.{Model, Word, LineRules}
use Rattle.line.proofs.Answers.{encode_written}
use Rattle.line.proofs.EveryLine.{some_line_bit}
use Rattle.frame.specs.Frame.{frame_bits, frame_of}
use Rattle.frame.proofs.Octets.{frame_length, frame_bits_lem}
use Rattle.chips.specs.Chips.{block}
use Rattle.sender.specs.declared.refusal.SenderRefusal.{SenderRefusal}
use Rattle.sender.specs.Sending.{Sending, with_left, begun, or_else, to_send, after_first, next_bit, moved, next_answer, if_accepted, next_output, next_sending}
use Rattle.sender.specs.Takes.{room, called, calls, after_calls, line_bits, last_of, take_of, takes_of, last_after, in_order, BetweenTakes, Sends, SendsTakes}
use Rattle.sender.proofs.Steps.{begins}

pub calls_plus : (m : Model) (a b : ℕ) (s : Sending) → calls m (a + b) s ≡ calls m a s ++ calls m b (after_calls m a s)
unfolding calls after_calls
calls_plus m zero b s = ap (λ (n : ℕ). calls m n s) (zero-add b)
calls_plus m (suc a) b s =
    ap (λ (n : ℕ). calls m n s) (suc-add a b)
    ∙ ap (λ (l : List (Result (List ℕ) SenderRefusal)). called m s ∷ l) (calls_plus m a b (next_sending m s 512))

pub after_plus : (m : Model) (a b : ℕ) (s : Sending) → after_calls m (a + b) s ≡ after_calls m b (after_calls m a s)
unfolding after_calls
after_plus m zero b s = ap (λ (n : ℕ). after_calls m n s) (zero-add b)
after_plus m (suc a) b s = ap (λ (n : ℕ). after_calls m n s) (suc-add a b) ∙ after_plus m a b (next_sending m s 512)

-- a sender of these line bits after its last
abbrev finished : Sending → ℕ → Sending
finished s last = record { card = s.card; number = suc s.number; last = last; size = s.size; left = [] }

-- ---- one call
module _ (m : Model) (s : Sending) (b : ℕ) (left : List ℕ) (below : s.number ≤ 999_999_999) (is : to_send m s ≡ b ∷ left) where
  accepted : next_answer s 512 ≡ Ok tt
  accepted = rw (le-leb s.number 999_999_999 below)

  one_block : called m s ≡ Ok (block b)
  unfolding called next_output next_bit if_accepted
  one_block =
      let one : next_output m s room ≡ block (get_or (to_send m s) 0 0) =
      ap (λ (r : Result (Unit {0}) SenderRefusal). if_accepted r (block (get_or (to_send m s) 0 0)) room) accepted
      in
      ap (on_ok (λ _. next_output m s room)) accepted ∙ ap Ok (one ∙ ap (λ (l : List ℕ). block (get_or l 0 0)) is)

  one_moved : next_sending m s 512 ≡ after_first s (b ∷ left)
  unfolding next_sending moved if_accepted
  one_moved = ap (λ (r : Result (Unit {0}) SenderRefusal). if_accepted r (after_first s (to_send m s)) s) accepted ∙ ap (after_first s) is

pub last_more : (b c : ℕ) (l : List ℕ) → last_of (b ∷ c ∷ l) ≡ last_of (c ∷ l)
unfolding last_of
last_more b c l =
    let x : length (b ∷ c ∷ l) - 1 ≡ suc (length l) = omega arith in
    let y : length (c ∷ l) - 1 ≡ length l = omega arith in
    ap (λ (n : ℕ). get_or (b ∷ c ∷ l) n 0) x ∙ sym (ap (λ (n : ℕ). get_or (c ∷ l) n 0) y)

last_one : (b : ℕ) → last_of (b ∷ []) ≡ b
unfolding last_of
last_one b = refl

-- ---- the rest of a take
module _ (m : Model) where
  rest : (left : List ℕ) (b : ℕ) (s : Sending) → s.number ≤ 999_999_999 → to_send m s ≡ b ∷ left →
      (calls m (suc (length left)) s ≡ map Ok (map block (b ∷ left)))
      × (after_calls m (suc (length left)) s ≡ finished s (last_of (b ∷ left)))
  unfolding calls after_calls after_first
  rest [] b s below is = (
    ap (λ (r : Result (List ℕ) SenderRefusal). r ∷ []) (one_block m s b [] below is),
    one_moved m s b [] below is ∙ ap (finished s) (sym (last_one b)),
  )
  rest (c ∷ left) b s below is =
      let s' = with_left (c ∷ left) s in
      let on : next_sending m s 512 ≡ s' = one_moved m s b (c ∷ left) below is in
      let more = rest left c s' below (unfold to_send or_else in refl) in (
        ap₂ (λ (r : Result (List ℕ) SenderRefusal) (rs : List (Result (List ℕ) SenderRefusal)). r ∷ rs) (one_block m s b (c ∷ left) below is)
            (ap (calls m (suc (length left))) on ∙ more.0),
        ap (after_calls m (suc (length left))) on ∙ more.1 ∙ ap (finished s) (sym (last_more b c left)),
      )

-- ---- a take
module _ (m : Model) (rules : LineRules m) (takes : m.takes 244 ≡ true) where
  frame_word : (c : CardValue) (k : ℕ) → length c.identifier ≡ 8 → Word 244 (frame_bits (frame_of c k))
  frame_word c k e = (frame_length (frame_of c k) e, frame_bits_lem (frame_of c k))

  pub line_word : (c : CardValue) (k last : ℕ) → length c.identifier ≡ 8 → last < 2 → Word (m.line_length 244) (line_bits m c k last)
  unfolding line_bits
  line_word c k last e h = rules.encodes 244 (frame_bits (frame_of c k)) last takes (frame_word c k e) h

  -- the last of them is a bit
  pub last_bit : (c : CardValue) (k last : ℕ) → length c.identifier ≡ 8 → last < 2 → last_of (line_bits m c k last) < 2
  unfolding last_of
  last_bit c k last e h = bit_at (line_bits m c k last) (line_word c k last e h).1 (length (line_bits m c k last) - 1)

  module _ (s : Sending) (b : BetweenTakes m s) (eight : length s.card.identifier ≡ 8) where
    abbrev out : List ℕ
    out = line_bits m s.card s.number s.last

    begun_is : to_send m s ≡ out
    unfolding to_send begun line_bits
    begun_is =
        let w = frame_word s.card s.number eight in
        let n = length (frame_bits (frame_of s.card s.number)) in
        let taken : m.takes n ≡ true = ap m.takes w.0 ∙ takes in
        let long : m.line_length n ≡ length (replicate s.size 0) =
        ap m.line_length w.0 ∙ sym b.size ∙ sym (length-replicate s.size 0)
        in
        sym (begins s.left _ b.none_left)
        ∙ sym (encode_written m (frame_bits (frame_of s.card s.number)) s.last (replicate s.size 0) taken long w.1 b.bit _ refl)

    long : length out ≡ m.line_length 244
    long = (line_word s.card s.number s.last eight b.bit).0

    -- its blocks, and the sender after them
    one_take : s.number ≤ 999_999_999 →
        (calls m (m.line_length 244) s ≡ map Ok (take_of m s.card s.number s.last))
        × (after_calls m (m.line_length 244) s ≡ finished s (last_of out))
    unfolding take_of
    one_take below = by out refl
      where
        by : (l : List ℕ) → out ≡ l →
            (calls m (m.line_length 244) s ≡ map Ok (map block out)) × (after_calls m (m.line_length 244) s ≡ finished s (last_of out))
        by [] e = absurd (omega (arith, some_line_bit m rules 244 takes (omega arith), long, ap length e))
        by (x ∷ l) e =
            let n : m.line_length 244 ≡ suc (length l) = sym long ∙ ap length e in
            let r = rest m l x s below (begun_is ∙ e) in (
              ap (λ (k : ℕ). calls m k s) n ∙ r.0 ∙ ap (λ (y : List ℕ). map Ok (map block y)) (sym e),
              ap (λ (k : ℕ). after_calls m k s) n ∙ r.1 ∙ ap (λ (y : List ℕ). finished s (last_of y)) (sym e),
            )

    between : BetweenTakes m (finished s (last_of out))
    between = record { size = b.size; none_left = refl; bit = last_bit s.card s.number s.last eight b.bit }

  -- ---- take after take
  pub sends : (n : ℕ) (s : Sending) → BetweenTakes m s → length s.card.identifier ≡ 8 → s.number + n ≤ 1_000_000_000 → Sends m n s
  unfolding takes_of last_after in_order
  sends zero s b eight below =
      let none : 0 * m.line_length 244 ≡ 0 = zero-mul (m.line_length 244) in
      let stays : after_calls m (0 * m.line_length 244) s ≡ s = ap (λ (k : ℕ). after_calls m k s) none ∙ unfold after_calls in refl in
      record {
        blocks = ap (λ (k : ℕ). calls m k s) none ∙ unfold calls in refl;
        after =
            stays
            ∙ ap₂ (λ (k : ℕ) (l : List ℕ). record { card = s.card; number = k; last = s.last; size = s.size; left = l })
            (sym (add-zero s.number)) b.none_left;
        between = subst (BetweenTakes m) (sym stays) b;
      }
  sends (suc n) s b eight below =
      let size = m.line_length 244 in
      let one = one_take s b eight (omega arith) in
      let s' = finished s (last_of (out s b eight)) in
      let more = sends n s' (between s b eight) eight (omega arith) in
      let count : suc n * size ≡ size + n * size = omega (arith, suc-mul n size) in
      let after : after_calls m (suc n * size) s ≡ after_calls m (n * size) s' =
      ap (λ (k : ℕ). after_calls m k s) count ∙ after_plus m size (n * size) s ∙ ap (after_calls m (n * size)) one.1
      in
      let number : suc s.number + n ≡ s.number + suc n = omega arith in
      record {
        blocks =
            ap (λ (k : ℕ). calls m k s) count
            ∙ calls_plus m size (n * size) s
            ∙ ap₂ (λ (x y : List (Result (List ℕ) SenderRefusal)). x ++ y) one.0 (ap (calls m (n * size)) one.1 ∙ more.blocks)
            ∙ sym (
            map-append Ok (take_of m s.card s.number s.last)
            (in_order (takes_of m s.card n (suc s.number) (last_of (out s b eight)))));
        after =
            after
            ∙ more.after
            ∙ ap (λ (k : ℕ). record { card = s.card; number = k; last = last_after m s.card n (suc s.number) (last_of (out s b eight)); size = s.size; left = [] }) number;
        between = subst (BetweenTakes m) (sym after) more.between;
      }

pub sends_takes : SendsTakes
sends_takes m rules takes n s b eight below = sends m rules takes n s b eight below
