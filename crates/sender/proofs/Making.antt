-- What making a sender is refused for, and what a made one has.
use Rattle.std.proofs.Common.{◌≡◌, ℕ, ◌<◌, ◌≤◌, Bool, true, false, cond, List, [], take, drop, Some, None, Ok, Err, refl, ap, ◌∙◌, arith}
use Rattle.std.proofs.lemmas.List.{drop_all, length-take}
use Rattle.card.specs.Card.{CardValue}
use Rattle.line.specs.Line.{Model, LineRules}
use Rattle.line.specs.Calls.{length_of}
use Rattle.line.proofs.Answers.{length_some}
use Rattle.line.proofs.EveryLine.{some_line_bit}
use Rattle.sender.specs.declared.refusal.SenderRefusal.{SenderRefusal}
use Rattle.sender.specs.declared.refusal.SenderRefusal.TheVariants.{FrameNotTaken}
use Rattle.sender.specs.Sending.{start_answer, started}

-- a length that was not answered is not taken
pub not_taken : (m : Model) (n : ℕ) → None ≡ length_of m n → m.takes n ≡ false
not_taken m n e = by (m.takes n) refl e
  where
    by : (t : Bool) → m.takes n ≡ t → None ≡ cond t (Some (m.line_length n)) None → m.takes n ≡ false
    by true q s = cc
    by false q s = q

-- where all bits of a take are sent none is left
pub all_sent : (size : ℕ) (bits : List ℕ) → drop size (take size bits) ≡ []
all_sent size bits = drop_all size (take size bits) (omega (arith, length-take size bits))

pub none_left : (sent size : ℕ) (bits : List ℕ) → sent ≡ size → drop sent (take size bits) ≡ []
none_left sent size bits e = ap (λ (n : ℕ). drop n (take size bits)) e ∙ all_sent size bits

module _ (m : Model) (c : CardValue) (number last : ℕ) where
  pub refused_line : None ≡ length_of m 244 → Err FrameNotTaken ≡ started m c number last
  unfolding started
  refused_line e = rw (not_taken m 244 e)

  module _ (size : ℕ) (some : Some size ≡ length_of m 244) where
    taken : m.takes 244 ≡ true
    taken = (length_some m 244 size some).0

    pub refused_start : (e : SenderRefusal) → Err e ≡ start_answer number last → Err e ≡ started m c number last
    unfolding started
    refused_start e h = rw (taken, ← h)

    pub made : Ok tt ≡ start_answer number last →
        Ok (record { card = c; number = number; last = last; size = size; left = [] }) ≡ started m c number last
    unfolding started
    made h = rw (taken, ← h, (length_some m 244 size some).1)

    pub some_bit : LineRules m → 0 < size
    some_bit rules = let p = some_line_bit m rules 244 taken (omega arith) in omega (arith, (length_some m 244 size some).1)

    pub room : LineRules m → size ≤ 4096
    room rules = let p = rules.short 244 taken in omega (arith, (length_some m 244 size some).1)
