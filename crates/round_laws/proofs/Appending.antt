-- Takes after takes.
use Rattle.std.proofs.Common.{◌≡◌, List, [], ◌∷◌, ◌++◌, Ok, Err, Result, refl, ap}
use Rattle.frame.specs.declared.carried.Frame.{Frame}
use Rattle.frame.specs.declared.refusal.FrameRefusal.{FrameRefusal}
use Rattle.round.specs.Rounds.{Answer, Reading, on_take, reading_after, answers_to}
use Rattle.round.specs.declared.refusal.TakeRefusal.{TakeRefusal}
use Rattle.round_laws.specs.TwoRounds.{refusals}

pub reading_append : (r : Reading) (ts us : List (Result Frame FrameRefusal)) → reading_after r (ts ++ us) ≡ reading_after (reading_after r ts) us
unfolding reading_after
reading_append r [] us = refl
reading_append r (t ∷ ts) us = reading_append (on_take r t).after ts us

pub answers_append : (r : Reading) (ts us : List (Result Frame FrameRefusal))
    → answers_to r (ts ++ us) ≡ answers_to r ts ++ answers_to (reading_after r ts) us
unfolding reading_after answers_to
answers_append r [] us = refl
answers_append r (t ∷ ts) us = ap (λ (l : List (Result Answer TakeRefusal)). (on_take r t).answer ∷ l)
    (answers_append (on_take r t).after ts us)

pub refusals_append : (xs ys : List (Result Answer TakeRefusal)) → refusals (xs ++ ys) ≡ refusals xs ++ refusals ys
unfolding refusals
refusals_append [] ys = refl
refusals_append (Ok a ∷ xs) ys = refusals_append xs ys
refusals_append (Err e ∷ xs) ys = ap (λ (l : List TakeRefusal). e ∷ l) (refusals_append xs ys)
