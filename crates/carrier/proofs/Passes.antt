-- Blocks that pass one after the other.
use Rattle.std.proofs.Common.{◌≡◌, ℕ, ◌+◌, ◌≤◌, List, [], ◌∷◌, ◌++◌, length, Ok, Err, Result, sym, refl, ap, ◌∙◌, ap₂, arith}
use Rattle.std.proofs.lemmas.List.{length-append, length_push}
use Rattle.std.proofs.ByRecursion.{All-push}
use Rattle.line.specs.Line.{Model}
use Rattle.chips.specs.Laws.{IsBlock}
use Rattle.sender.specs.Sending.{Sending, next_sending}
use Rattle.sender.specs.Takes.{after_calls}
use Rattle.sender.proofs.Takes.{after_plus}
use Rattle.round.specs.Rounds.{Answer}
use Rattle.round.specs.Rounds.Answer.{counted, passed_over, taken, closed}
use Rattle.round_laws.specs.TwoRounds.{refusals, closed_by as closed_card, closed_cards}
use Rattle.carrier.specs.declared.refusal.ReaderRefusal.{ReaderRefusal}
use Rattle.carrier.specs.Receiving.{Receiving, on_block, answers_to, receiving_after}
use Rattle.carrier.specs.Passing.{refused_by, closed_by, OneMore, Passed}
use Rattle.carrier.proofs.Heard.{refusals_append, closed_append}

module _ (m : Model) where
  answers_push : (s : Receiving) (xs : List (List ℕ)) (b : List ℕ) →
      answers_to m s (xs ++ (b ∷ [])) ≡ answers_to m s xs ++ ((on_block m (receiving_after m s xs) b).answer ∷ [])
  unfolding answers_to receiving_after
  answers_push s [] b = refl
  answers_push s (x ∷ xs) b = ap (λ (l : List (Result Answer ReaderRefusal)). (on_block m s x).answer ∷ l) (answers_push (on_block m s x).after xs b)

  after_push : (s : Receiving) (xs : List (List ℕ)) (b : List ℕ) → receiving_after m s (xs ++ (b ∷ [])) ≡ (on_block m (receiving_after m s xs) b).after
  unfolding receiving_after
  after_push s [] b = refl
  after_push s (x ∷ xs) b = after_push (on_block m s x).after xs b

refused_one : (a : Result Answer ReaderRefusal) → length (refusals (a ∷ [])) ≡ refused_by a
unfolding refusals
refused_one (Ok a) = refl
refused_one (Err e) = refl

closed_one : (a : Result Answer ReaderRefusal) → length (closed_cards (a ∷ [])) ≡ closed_by a
unfolding closed_cards closed_card
closed_one (Ok counted) = refl
closed_one (Ok passed_over) = refl
closed_one (Ok taken) = refl
closed_one (Ok (closed c)) = refl
closed_one (Err e) = refl

pub none_passed : (m : Model) (s : Receiving) (r c : ℕ) → r ≡ 0 → c ≡ 0 → Passed m 0 s r c s
unfolding answers_to receiving_after refusals closed_cards
none_passed m s r c e f = record { arriving = []; many = refl; are_blocks = tt; refused_is = e; closed_is = f; after = refl }

pub one_passed : (m : Model) (n : ℕ) (s s' s'' : Receiving) (r c r' c' : ℕ) (answer : Result Answer ReaderRefusal) → Passed m n s r c s' → OneMore m s' answer s'' → r' ≡ r + refused_by answer → c' ≡ c + closed_by answer
    → Passed m (n + 1) s r' c' s''
one_passed m n s s' s'' r c r' c' answer p o refusals_are closings_are =
    let xs = p.arriving in
    let b = o.block in
    let a = (on_block m (receiving_after m s xs) b).answer in
    let here : on_block m s' b ≡ on_block m (receiving_after m s xs) b = ap (λ (x : Receiving). on_block m x b) p.after in
    record {
      arriving = xs ++ (b ∷ []);
      many = length_push xs b ∙ omega (arith, p.many);
      are_blocks = All-push IsBlock xs b p.are_blocks o.is_block;
      refused_is =
          refusals_are
          ∙ ap₂ (λ (x y : ℕ). x + y) p.refused_is (ap refused_by o.answered ∙ ap (λ q. refused_by q.answer) here ∙ sym (refused_one a))
          ∙ sym (ap length (ap refusals (answers_push m s xs b) ∙ refusals_append (answers_to m s xs) (a ∷ [])) ∙ length-append (refusals (answers_to m s xs)) (refusals (a ∷ [])));
      closed_is =
          closings_are
          ∙ ap₂ (λ (x y : ℕ). x + y) p.closed_is (ap closed_by o.answered ∙ ap (λ q. closed_by q.answer) here ∙ sym (closed_one a))
          ∙ sym (ap length (ap closed_cards (answers_push m s xs b) ∙ closed_append (answers_to m s xs) (a ∷ [])) ∙ length-append (closed_cards (answers_to m s xs)) (closed_cards (a ∷ [])));
      after = o.after ∙ ap (λ q. q.after) here ∙ sym (after_push m s xs b);
    }

pub one_sent : (m : Model) (i : ℕ) (s s' s'' : Sending) → s' ≡ after_calls m i s → s'' ≡ next_sending m s' 512 → s'' ≡ after_calls m (i + 1) s
unfolding after_calls
one_sent m i s s' s'' e f = f ∙ ap (λ (x : Sending). next_sending m x 512) e ∙ sym (after_plus m i 1 s)

-- an answer counts for at most one
pub refused_most : (a : Result Answer ReaderRefusal) → refused_by a ≤ 1
refused_most (Ok a) = omega arith
refused_most (Err e) = omega arith

pub closed_most : (a : Result Answer ReaderRefusal) → closed_by a ≤ 1
closed_most (Ok counted) = omega arith
closed_most (Ok passed_over) = omega arith
closed_most (Ok taken) = omega arith
closed_most (Ok (closed c)) = omega arith
closed_most (Err e) = omega arith
