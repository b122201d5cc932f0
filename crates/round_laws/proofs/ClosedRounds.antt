-- A card is closed only by one unbroken round of it.
use Rattle.std.proofs.Common.{◌≡◌, ℕ, ◌%◌, eqb, List, [], ◌∷◌, ◌++◌, map, length, Some, Ok, Err, Result, sym, refl, ap, ◌∙◌, subst, ap₂, append_assoc, arith}
use Rattle.std.specs.List.{AllByRecursion}
use Rattle.std.proofs.lemmas.List.{append-nil, map-append, length_push}
use Rattle.std.proofs.ByRecursion.{All-weaker}
use Rattle.std.proofs.lemmas.Bool.{eq-eqb, ne_eqb, cond-true, cond-false}
use Rattle.card.specs.Card.{CardValue, Lawful}
use Rattle.content.specs.Sequence.{marker, field_sets, sequence}
use Rattle.content.specs.declared.entry.Content.{Content}
use Rattle.frame.specs.declared.carried.Frame.{Frame}
use Rattle.frame.specs.declared.refusal.FrameRefusal.{FrameRefusal}
use Rattle.round.specs.Rounds.{State, Answer, Reading, fresh, round_card, on_take, reading_after, answers_to}
use Rattle.round.specs.Rounds.State.{waiting, opened, unfinished, closing}
use Rattle.round.specs.declared.refusal.TakeRefusal.{TakeRefusal}
use Rattle.round.specs.declared.refusal.TakeRefusal.TheVariants.{BrokenOff}
use Rattle.round_laws.specs.TwoRounds.{refusals}
use Rattle.round_laws.specs.Closings.{EndsWithRound}
use Rattle.round_laws.specs.Exactly.{accepted_since, unbroken, open_round, so_far}
use Rattle.round_laws.specs.HalfRules.{Breaks}
use Rattle.round_laws.specs.HalfRules.Breaks.{breaks_off}
use Rattle.round_laws.proofs.Appending.{reading_append, answers_append, refusals_append}
use Rattle.round_laws.proofs.OpenRounds.{round_ends}
use Rattle.round_laws.proofs.Follows.{Follows}
use Rattle.round_laws.proofs.Verdicts.{unfinished_after}

-- takes end with these frames, none of them refused
record Received (ts : List (Result Frame FrameRefusal)) (fs : List Frame) : Type 0 where
  pub earlier : List (Result Frame FrameRefusal)
  pub parts : ts ≡ earlier ++ map Ok fs
  pub accepted : refusals (answers_to (reading_after fresh earlier) (map Ok fs)) ≡ []

-- no frames
received_none : (ts : List (Result Frame FrameRefusal)) → Received ts []
unfolding refusals answers_to
received_none ts = record { earlier = ts; parts = sym (append-nil ts); accepted = refl }

-- one more, accepted
received_push : (ts : List (Result Frame FrameRefusal)) (fs : List Frame) (f : Frame) (a : Answer) → Received ts fs
    → (on_take (reading_after fresh ts) (Ok f)).answer ≡ Ok a → Received (ts ++ (Ok f ∷ [])) (fs ++ (f ∷ []))
unfolding refusals answers_to
received_push ts fs f a h e =
    let here : reading_after (reading_after fresh h.earlier) (map Ok fs) ≡ reading_after fresh ts =
    sym (reading_append fresh h.earlier (map Ok fs)) ∙ ap (reading_after fresh) (sym h.parts) in
    record {
      earlier = h.earlier;
      parts = ap (λ (l : List (Result Frame FrameRefusal)). l ++ (Ok f ∷ [])) h.parts
          ∙ append_assoc h.earlier (map Ok fs) (Ok f ∷ [])
          ∙ ap (λ (l : List (Result Frame FrameRefusal)). h.earlier ++ l) (sym (map-append Ok fs (f ∷ [])));
      accepted =
          ap (λ (l : List (Result Frame FrameRefusal)). refusals (answers_to (reading_after fresh h.earlier) l))
          (map-append Ok fs (f ∷ []))
          ∙ ap refusals (answers_append (reading_after fresh h.earlier) (map Ok fs) (Ok f ∷ []))
          ∙ refusals_append (answers_to (reading_after fresh h.earlier) (map Ok fs)) _
          ∙ ap₂ ◌++◌ h.accepted (ap (λ (r : Reading). refusals ((on_take r (Ok f)).answer ∷ [])) here
          ∙ ap (λ (b : Result Answer TakeRefusal). refusals (b ∷ [])) e);
    }

-- the frames accepted since the last refused take
received : (us ts : List (Result Frame FrameRefusal)) (fs : List Frame) → Received ts fs
    → Received (ts ++ us) (accepted_since fs us (answers_to (reading_after fresh ts) us))
unfolding accepted_since answers_to reading_after
received [] ts fs h = subst (λ (l : List (Result Frame FrameRefusal)). Received l fs) (sym (append-nil ts)) h
received (t ∷ us) ts fs h = by t (on_take (reading_after fresh ts) t).answer refl (λ gs g. onward gs (received us (ts ++ (t ∷ [])) gs g))
  where
    r : Reading
    r = reading_after fresh ts

    onward : (gs : List Frame) → Received ((ts ++ (t ∷ [])) ++ us) (accepted_since gs us (answers_to (reading_after fresh (ts ++ (t ∷ []))) us))
        → Received (ts ++ (t ∷ us)) (accepted_since gs us (answers_to (on_take r t).after us))
    onward gs g =
        subst (λ (l : List (Result Frame FrameRefusal)). Received l (accepted_since gs us (answers_to (on_take r t).after us)))
        (append_assoc ts (t ∷ []) us)
        (subst (λ (q : Reading). Received ((ts ++ (t ∷ [])) ++ us) (accepted_since gs us (answers_to q us)))
        (reading_append fresh ts (t ∷ [])) g)

    by : (t : Result Frame FrameRefusal) (b : Result Answer TakeRefusal) → (on_take r t).answer ≡ b
        → ((gs : List Frame) → Received (ts ++ (t ∷ [])) gs → Received (ts ++ (t ∷ us)) (accepted_since gs us (answers_to (on_take r t).after us)))
        → Received (ts ++ (t ∷ us)) (accepted_since fs (t ∷ us) ((on_take r t).answer ∷ answers_to (on_take r t).after us))
    by (Err g) b e more = subst (λ (c : Result Answer TakeRefusal). Received (ts ++ (Err g ∷ us))
        (accepted_since fs (Err g ∷ us) (c ∷ answers_to (on_take r (Err g)).after us))) (sym e) (more [] (received_none (ts ++ (Err g ∷ []))))
    by (Ok f) (Ok a) e more =
        subst (λ (c : Result Answer TakeRefusal). Received (ts ++ (Ok f ∷ us))
        (accepted_since fs (Ok f ∷ us) (c ∷ answers_to (on_take r (Ok f)).after us))) (sym e)
        (more (fs ++ (f ∷ [])) (received_push ts fs f a h e))
    by (Ok f) (Err g) e more =
        subst (λ (c : Result Answer TakeRefusal). Received (ts ++ (Ok f ∷ us))
        (accepted_since fs (Ok f ∷ us) (c ∷ answers_to (on_take r (Ok f)).after us))) (sym e)
        (more [] (received_none (ts ++ (Ok f ∷ []))))

none_right : (xs ys : List TakeRefusal) → xs ++ ys ≡ [] → ys ≡ []
none_right [] ys e = e
none_right (x ∷ xs) ys e = let z : ◌≡◌ {A = ℕ} 0 1 = cc in absurd (omega arith)

-- the end of the frames
received_end : (ts : List (Result Frame FrameRefusal)) (fs passed rest : List Frame) → fs ≡ passed ++ rest → Received ts fs → Received ts rest
received_end ts fs passed rest e h =
    let split : map Ok fs ≡ map Ok passed ++ map Ok rest = ap (map Ok) e ∙ map-append Ok passed rest in
    let r : Reading = reading_after fresh h.earlier in
    record {
      earlier = h.earlier ++ map Ok passed;
      parts = h.parts ∙ ap (λ (l : List (Result Frame FrameRefusal)). h.earlier ++ l) split
          ∙ sym (append_assoc h.earlier (map Ok passed) (map Ok rest));
      accepted =
          ap (λ (q : Reading). refusals (answers_to q (map Ok rest))) (reading_append fresh h.earlier (map Ok passed))
          ∙ none_right (refusals (answers_to r (map Ok passed))) _
          (sym (refusals_append (answers_to r (map Ok passed)) (answers_to (reading_after r (map Ok passed)) (map Ok rest)))
          ∙ ap refusals (sym (answers_append r (map Ok passed) (map Ok rest)))
          ∙ ap (λ (l : List (Result Frame FrameRefusal)). refusals (answers_to r l)) (sym split)
          ∙ h.accepted);
    }

-- an even number of halves is the sequence
whole_open : (c : CardValue) (xs : List Content) → xs ≡ marker ∷ field_sets c → length xs % 2 ≡ 0 → xs ≡ sequence c
whole_open c xs e n =
    let m : length (marker ∷ field_sets c) % 2 ≡ 0 = sym (ap (λ (l : List Content). length l % 2) e) ∙ n in
    e ∙ sym (cond-false (eqb (length (marker ∷ field_sets c) % 2) 1) ((marker ∷ field_sets c) ++ (marker ∷ [])) (marker ∷ field_sets c)
    (ne_eqb (length (marker ∷ field_sets c) % 2) 1 (λ q. omega arith)))

whole_closing : (c : CardValue) (xs : List Content) → xs ≡ (marker ∷ field_sets c) ++ (marker ∷ []) → length xs % 2 ≡ 0 → xs ≡ sequence c
whole_closing c xs e n =
    e ∙ sym (cond-true (eqb (length (marker ∷ field_sets c) % 2) 1) ((marker ∷ field_sets c) ++ (marker ∷ [])) (marker ∷ field_sets c)
    (eq-eqb (length (marker ∷ field_sets c) % 2) 1 (omega (arith, ap length e, length_push (marker ∷ field_sets c) marker))))

-- the state's round is whole: it has carried the card's sequence
pub record Whole (d : CardValue) (i : List ℕ) (xs : List Content) : Type 0 where
  pub lawful : Lawful d
  pub identified : d.identifier ≡ i
  pub carries : xs ≡ sequence d

-- ID 0 in half 1 breaks no rule there
pub round_whole : (s : State) (i : List ℕ) (xs : List Content) (x : Content) (d : CardValue) → Follows i s xs → length xs % 2 ≡ 0
    → round_card s ≡ Some d → x.id ≡ 0
    → ((e : TakeRefusal) → Breaks 1 xs x e → ⊥) → Whole d i xs
unfolding round_card
round_whole waiting i xs x d f n e z ok = let q : ◌≡◌ {A = ℕ} 0 1 = cc in absurd (omega arith)
round_whole (opened c last) i xs x d f n e z ok =
    let q : c ≡ d = cc in
    subst (λ (y : CardValue). Whole y i xs) q (record { lawful = f.0; identified = f.1; carries = whole_open c xs f.2.carries n })
round_whole (unfinished c last ws) i xs x d f n e z ok =
    absurd (ok (BrokenOff 1 0) (breaks_off (record { zero = z; unfinished = unfinished_after {c = c} {last = last} {ws = ws} f })))
round_whole (closing c) i xs x d f n e z ok =
    let q : c ≡ d = cc in
    subst (λ (y : CardValue). Whole y i xs) q (record { lawful = f.0; identified = f.1; carries = whole_closing c xs f.2.carries n })

-- the round that takes end with
pub ends_with : (ts : List (Result Frame FrameRefusal)) (f : Frame) (d : CardValue) → Lawful d → so_far (unbroken ts) ≡ sequence d
    → f.identifier ≡ d.identifier
    → AllByRecursion (λ g. g.identifier ≡ f.identifier) (open_round (unbroken ts)) → EndsWithRound d ts
unfolding reading_after
ends_with ts f d l c i a =
    let ends = round_ends (unbroken ts) in
    let h = received_end ts (unbroken ts) ends.0 (open_round (unbroken ts)) ends.1 (received ts [] [] (received_none [])) in
    record {
      lawful = l;
      earlier = h.earlier;
      round = open_round (unbroken ts);
      parts = h.parts;
      carries = c;
      identified = All-weaker (λ x. x.identifier ≡ f.identifier) (λ x. x.identifier ≡ d.identifier) (λ x e. e ∙ i)
          (open_round (unbroken ts)) a;
      accepted = h.accepted;
    }
