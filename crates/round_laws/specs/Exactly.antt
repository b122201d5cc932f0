-- Exactly when each answer comes to a frame, and each refusal from 19 to 23, told from the frames accepted before it and the Content
-- IDs that they carried.
use Rattle.std.specs.Prelude.{◌≡◌, ℕ, true, cond, ◌⊎◌, ◌↔◌, List, [], ◌∷◌, ◌++◌, Some, None, Ok, Err, Option, Result, ◌==◌, ◌≢◌}
use Rattle.std.specs.List.{AllByRecursion}
use Rattle.card.specs.Fields.{keeps_first_octet}
use Rattle.card.specs.Card.{CardValue, Lawful}
use Rattle.content.specs.Sequence.{sequence}
use Rattle.content.specs.declared.entry.Content.{Content}
use Rattle.frame.specs.declared.carried.Frame.{Frame}
use Rattle.frame.specs.declared.refusal.FrameRefusal.{FrameRefusal}
use Rattle.round.specs.Refusals.{of_frame}
use Rattle.round.specs.Rounds.{Answer, fresh, answers_to}
use Rattle.round.specs.Rounds.Answer.{counted, passed_over, taken, closed}
use Rattle.round.specs.declared.refusal.TakeRefusal.{TakeRefusal}
use Rattle.round.specs.declared.refusal.TakeRefusal.TheVariants.{SameUniqueWord, Identifier}
use Rattle.round_laws.specs.Closings.{carried, answer_after}
use Rattle.round_laws.specs.HalfRules.{Breaks}

-- The frames accepted since the last refused take, oldest first: those `before`, then those of more takes, with the answers to them.
unfoldable pub accepted_since : List Frame → List (Result Frame FrameRefusal) → List (Result Answer TakeRefusal) → List Frame
accepted_since before [] answers = before
accepted_since before (t ∷ ts) [] = before
accepted_since before (Ok f ∷ ts) (Ok a ∷ answers) = accepted_since (before ++ (f ∷ [])) ts answers
accepted_since before (Ok f ∷ ts) (Err e ∷ answers) = accepted_since [] ts answers
accepted_since before (Err e ∷ ts) (a ∷ answers) = accepted_since [] ts answers

abbrev pub unbroken : List (Result Frame FrameRefusal) → List Frame
unbroken ts = accepted_since [] ts (answers_to fresh ts)

-- the first of two lists that is not empty
unfoldable pub or_else : List Frame → List Frame → List Frame
or_else [] others = others
or_else (f ∷ fs) others = f ∷ fs

-- the frames of the open round: from the last one on whose first ID is 0; none where no first ID is 0
unfoldable pub open_round : List Frame → List Frame
open_round [] = []
open_round (f ∷ fs) = or_else (open_round fs) (cond (f.first.id == 0) (f ∷ fs) [])

-- what the open round has carried; nothing where none is open
abbrev pub so_far : List Frame → List Content
so_far before = carried (open_round before)

-- the unique word of the last frame
unfoldable pub last_unique : List Frame → Option ℕ
last_unique [] = None
last_unique (f ∷ []) = Some f.unique
last_unique (f ∷ g ∷ fs) = last_unique (g ∷ fs)

-- Refusal 19: the unique word is that of the last accepted take, with none refused since.
abbrev pub Repeats : List Frame → Frame → Type 0
Repeats before f = last_unique before ≡ Some f.unique

-- What refusal 20 asks for: the identifier is lawful, and that of the open round, if there is one.
pub record Belongs (before : List Frame) (f : Frame) : Type 0 where
  pub lawful : keeps_first_octet f.identifier ≡ true
  pub same : AllByRecursion (λ g. g.identifier ≡ f.identifier) (open_round before)

-- neither the unique word nor the identifier is refused
pub record Fits (before : List Frame) (f : Frame) : Type 0 where
  pub alternates : Repeats before f → ⊥
  pub belongs : Belongs before f

-- besides, a round is open or the frame opens one: its halves are looked at
pub record InRound (before : List Frame) (f : Frame) : Type 0 where
  pub fits : Fits before f
  pub round : (open_round before ≢ []) ⊎ (f.first.id ≡ 0)

-- what a round has carried up to half 1, which with ID 0 begins it
abbrev pub with_first : List Content → Content → List Content
with_first xs x = cond (x.id == 0) (x ∷ []) (xs ++ (x ∷ []))

-- The rule that a frame breaks, after the frames accepted since the last refused take, and the refusal that stands for it.
pub data Refused (before : List Frame) (f : Frame) : TakeRefusal → Type 0 where
  repeats : Repeats before f → Refused before f SameUniqueWord
  foreign : (Repeats before f → ⊥) → (Belongs before f → ⊥) → Refused before f Identifier
  in_first : {e : TakeRefusal} → InRound before f → Breaks 1 (so_far before) f.first e → Refused before f e
  in_second : {e : TakeRefusal} → InRound before f → ((e : TakeRefusal) → Breaks 1 (so_far before) f.first e → ⊥)
      → Breaks 2 (with_first (so_far before) f.first) f.second e → Refused before f e

-- it breaks none
abbrev pub Accepted : List Frame → Frame → Type 0
Accepted before f = (e : TakeRefusal) → Refused before f e → ⊥

-- no round is open and the frame opens none: its halves are not looked at
pub record Passes (before : List Frame) (f : Frame) : Type 0 where
  pub fits : Fits before f
  pub none : open_round before ≡ []
  pub other : f.first.id ≡ 0 → ⊥

-- the frame opens a round where none is open, or goes on with the open one
pub record Takes (before : List Frame) (f : Frame) : Type 0 where
  pub accepted : Accepted before f
  pub round : ((f.first.id ≡ 0) × (open_round before ≡ [])) ⊎ ((f.first.id ≢ 0) × (open_round before ≢ []))

-- the frame begins the next round, and the open one has carried the sequence of the lawful card d
pub record Closes (before : List Frame) (f : Frame) (d : CardValue) : Type 0 where
  pub accepted : Accepted before f
  pub zero : f.first.id ≡ 0
  pub lawful : Lawful d
  pub carries : so_far before ≡ sequence d
  pub identified : f.identifier ≡ d.identifier

-- when an answer is due; `counted` is none to a whole take
abbrev pub Due : List Frame → Frame → Answer → Type 0
Due before f counted = ⊥
Due before f passed_over = Passes before f
Due before f taken = Takes before f
Due before f (closed d) = Closes before f d

-- A frame is refused exactly when it breaks the rule that the refusal stands for, and gets another answer exactly when that is due.
pub record ExactAnswer (ts : List (Result Frame FrameRefusal)) (f : Frame) : Type 0 where
  pub refused : (e : TakeRefusal) → (answer_after ts (Ok f) ≡ Err e) ↔ Refused (unbroken ts) f e
  pub accepted : (a : Answer) → (answer_after ts (Ok f) ≡ Ok a) ↔ Due (unbroken ts) f a

-- whatever was received before; a take that is no frame is refused with what was refused of it as a frame
pub record ExactAnswers : Type 0 where
  pub frame : (ts : List (Result Frame FrameRefusal)) (f : Frame) → ExactAnswer ts f
  pub no_frame : (ts : List (Result Frame FrameRefusal)) (e : FrameRefusal) → answer_after ts (Err e) ≡ Err (of_frame e)
