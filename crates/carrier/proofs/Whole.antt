-- The guarantee of two rounds.
use Rattle.std.proofs.Common.{◌≡◌, ℕ, zero, suc, ◌+◌, ◌-◌, ◌*◌, ◌<◌, ◌≤◌, true, List, [], ◌∷◌, ◌++◌, map, length, take, drop, Ok, Result, sym, refl, ap, ◌∙◌, subst, ap₂, suc-mul, zero-mul, arith}
use lib.ListN.{length-map}
use Rattle.std.specs.List.{AllByRecursion}
use Rattle.std.proofs.lemmas.List.{take_at, drop_at, length-append, length-take-le, length-drop, drop-drop}
use Rattle.std.proofs.ByRecursion.{All-take, All-drop}
use Rattle.card.specs.Card.{CardValue, Lawful}
use Rattle.content.specs.Sequence.{round_length}
use Rattle.line.specs.Line.{Model, LineRules}
use Rattle.line.proofs.EveryLine.{some_line_bit}
use Rattle.frame.specs.Frame.{frame_of}
use Rattle.frame.specs.Judging.{Sendable}
use Rattle.chips.specs.Chips.{block, lost}
use Rattle.chips.specs.Laws.{IsBlock}
use Rattle.round.specs.Rounds.{fresh}
use Rattle.sender.specs.Takes.{line_bits, last_of, take_of, takes_of, in_order}
use Rattle.sender.specs.declared.refusal.SenderRefusal.{SenderRefusal}
use Rattle.sender.proofs.Takes.{line_word, last_bit, sends_takes}
use Rattle.round_laws.specs.TwoRounds.{frames_from, closed_cards, ClosesOnce}
use Rattle.round_laws.proofs.Frames.{two_rounds}
use Rattle.round_laws.proofs.Rooms.{frames_have_room}
use Rattle.carrier.specs.Receiving.{fresh_of, answers_to}
use Rattle.carrier.specs.Guarantee.{nth_take, Run, Delivers, SameCard, Guarantee}
use Rattle.carrier.proofs.Cards.{stands, lawful, eight, octets}
use Rattle.carrier.proofs.Arrived.{Arrives, judged_as}
use Rattle.carrier.proofs.Heard.{Judged, all_takes, closes_once}

-- ---- lists
-- take 0 among takes, and the others
first_at : (size : ℕ) (blocks : List (List ℕ)) → nth_take size 0 blocks ≡ take size blocks
first_at size blocks = ap (λ (n : ℕ). take size (drop n blocks)) (zero-mul size)

other_at : (size i : ℕ) (blocks : List (List ℕ)) → nth_take size (suc i) blocks ≡ nth_take size i (drop size blocks)
other_at size i blocks =
    let e : suc i * size ≡ size + i * size = omega (arith, suc-mul i size) in
    ap (λ (n : ℕ). take size (drop n blocks)) e ∙ ap (take size) (sym (drop-drop (i * size) size blocks))

-- what calls wrote is one list of blocks only
same_written : (xs ys : List (List ℕ)) → map {B = Result (List ℕ) SenderRefusal} Ok xs ≡ map Ok ys → xs ≡ ys
same_written [] [] e = refl
same_written [] (y ∷ ys) e = absurd (let z : ◌≡◌ {A = ℕ} 0 1 = cc in omega arith)
same_written (x ∷ xs) [] e = absurd (let z : ◌≡◌ {A = ℕ} 0 1 = cc in omega arith)
same_written (x ∷ xs) (y ∷ ys) e =
    let h : x ≡ y = cc in
    let t : map {B = Result (List ℕ) SenderRefusal} Ok xs ≡ map Ok ys = cc in
    ap₂ (λ (a : List ℕ) (r : List (List ℕ)). a ∷ r) h (same_written xs ys t)

-- ---- takes that arrive are judged as their frames
module _ (m : Model) (rules : LineRules m) (takes : m.takes 244 ≡ true) where
  some : 0 < m.line_length 244
  some = some_line_bit m rules 244 takes (omega arith)

  module _ (c : CardValue) (room : (k : ℕ) → Sendable (frame_of c k)) where
    take_length : (k last : ℕ) → last < 2 → length (take_of m c k last) ≡ m.line_length 244
    unfolding take_of
    take_length k last h = length-map (line_bits m c k last) block ∙ (line_word m rules takes c k last (room 0).eight h).0

    judged_all : (n k last : ℕ) (arriving : List (List ℕ)) → last < 2 → length arriving ≡ n * m.line_length 244 → AllByRecursion IsBlock arriving →
        ((i : ℕ) → i < n → m.growth (lost (nth_take (m.line_length 244) i (in_order (takes_of m c n k last))) (nth_take (m.line_length 244) i arriving)) ≤ 6) →
        Judged m (m.line_length 244) (map Ok (frames_from c k n)) arriving
    unfolding frames_from takes_of in_order
    judged_all zero k last arriving h l a bound = l ∙ zero-mul (m.line_length 244)
    judged_all (suc n) k last arriving h l a bound =
        let size = m.line_length 244 in
        let t = take_of m c k last in
        let next = last_of (line_bits m c k last) in
        let rest = in_order (takes_of m c n (suc k) next) in
        let long : length arriving ≡ n * size + size = l ∙ suc-mul n size in
        let enough : size ≤ length arriving = omega arith in
        let here : m.growth (lost t (take size arriving)) ≤ 6 =
        subst (λ (x : ℕ). m.growth x ≤ 6)
        (ap₂ lost (first_at size (t ++ rest) ∙ take_at t rest size (take_length k last h)) (first_at size arriving)) (bound 0 (omega arith))
        in
        let arrives : Arrives m rules takes c room k last (take size arriving) = record {
          many = length-take-le size arriving enough;
          blocks = All-take IsBlock size arriving a;
          bound = here;
        } in
        let others : (i : ℕ) → i < n → m.growth (lost (nth_take size i rest) (nth_take size i (drop size arriving))) ≤ 6 =
        λ i lt.
        subst (λ (x : ℕ). m.growth x ≤ 6)
        (ap₂ lost (other_at size i (t ++ rest) ∙ ap (nth_take size i) (drop_at t rest size (take_length k last h))) (other_at size i arriving)) (bound (suc i) (omega arith))
        in (
          enough,
          All-take IsBlock size arriving a,
          judged_as m rules takes c room k last (take size arriving) h arrives,
          judged_all n (suc k) next (drop size arriving) (last_bit m rules takes c k last (room 0).eight h) (length-drop size arriving ∙ omega arith)
              (All-drop IsBlock size arriving a) others,
        )

  -- ---- a run
  module _ (run : Run m) where
    c : CardValue
    c = run.sender.card

    is_lawful : Lawful run.sender.card
    is_lawful = rw run.for_card (lawful run.nine run.card run.opens run.acts)

    room : (k : ℕ) → Sendable (frame_of run.sender.card k)
    room =
        frames_have_room run.sender.card is_lawful
        (rw run.for_card (eight run.nine run.card run.opens run.acts))
        (rw run.for_card (octets run.nine run.card run.opens run.acts run.octets))

    takes_sent : run.sent ≡ in_order (takes_of m run.sender.card (2 * round_length run.sender.card) run.sender.number run.sender.last)
    takes_sent =
        let s = run.sender in
        same_written run.sent _ (
        sym run.writes ∙ (sends_takes m rules takes (2 * round_length s.card) s run.between (room 0).eight run.numbers).blocks)

    sent_length : (n k last : ℕ) → last < 2 → length (in_order (takes_of m run.sender.card n k last)) ≡ n * m.line_length 244
    unfolding takes_of in_order
    sent_length zero k last h = sym (zero-mul (m.line_length 244))
    sent_length (suc n) k last h =
        let t = take_of m run.sender.card k last in
        length-append t _
        ∙ omega (
          arith,
          take_length run.sender.card room k last h,
          suc-mul n (m.line_length 244),
          sent_length n (suc k) _ (last_bit m rules takes run.sender.card k last (room 0).eight h),
        )

    closing : ClosesOnce run.sender.card (answers_to m (fresh_of (m.line_length 244)) run.arriving)
    closing =
        let s = run.sender in
        let n = 2 * round_length s.card in
        let size = m.line_length 244 in
        let long : length run.arriving ≡ n * size = run.many ∙ ap length takes_sent ∙ sent_length n s.number s.last run.between.bit in
        let judged = judged_all s.card room n s.number s.last run.arriving run.between.bit long run.blocks
        (λ i lt. subst (λ (x : List (List ℕ)). m.growth (lost (nth_take size i x) (nth_take size i run.arriving)) ≤ 6) takes_sent (run.bound i lt))
        in
        let answers = all_takes m size (map Ok (frames_from s.card s.number n)) run.arriving fresh some judged in
        rw answers (closes_once (size - 1) s.card _ (two_rounds s.card is_lawful s.number))

    delivering : Delivers m run
    delivering = record {
      card = run.sender.card;
      closes = closing;
      stands = rw run.for_card (stands run.nine run.card run.opens run.acts);
    }

  same_card : (one two : Run m) → one.arriving ≡ two.arriving → SameCard one two
  same_card one two e =
      let a = delivering one in
      let b = delivering two in
      let both : a.card ∷ [] ≡ b.card ∷ [] =
      sym a.closes.closes ∙ ap (λ (l : List (List ℕ)). closed_cards (answers_to m (fresh_of (m.line_length 244)) l)) e ∙ b.closes.closes
      in
      let c : a.card ≡ b.card = cc in
      record {
        identifier = sym a.stands.identifier ∙ ap (λ d. d.identifier) c ∙ b.stands.identifier;
        latitude = sym a.stands.latitude ∙ ap (λ d. d.latitude) c ∙ b.stands.latitude;
        longitude = sym a.stands.longitude ∙ ap (λ d. d.longitude) c ∙ b.stands.longitude;
        telephone = sym a.stands.telephone ∙ ap (λ d. d.telephone) c ∙ b.stands.telephone;
        message = sym a.stands.message ∙ ap (λ d. d.message) c ∙ b.stands.message;
      }

pub guarantee : Guarantee
guarantee m rules takes = record {
  delivers = delivering m rules takes;
  tells_apart = λ one two differ e. differ (same_card m rules takes one two e);
}
