-- Rounds: what each take, judged as a frame, does to the reader, half by half.
use Rattle.std.specs.Prelude.{ℕ, suc, Bool, true, false, cond, ◌&&◌, ◌||◌, List, [], ◌∷◌, ◌++◌, Some, None, Ok, Err, Option, Result, ◌==◌, nat_lt}
use Rattle.coding.specs.Distance.{distance}
use Rattle.card.specs.Fields.{keeps_first_octet}
use Rattle.card.specs.Card.{CardValue, blank, with_latitude, with_longitude, with_telephone, with_message}
use Rattle.content.specs.Kind.{taken_apart}
use Rattle.content.specs.Kinds.{latitude_kind, longitude_kind, telephone_kind, message_kind}
use Rattle.content.specs.declared.entry.Content.{Content}
use Rattle.frame.specs.declared.carried.Frame.{Frame}
use Rattle.frame.specs.declared.refusal.FrameRefusal.{FrameRefusal}
use Rattle.round.specs.declared.refusal.TakeRefusal.{TakeRefusal}
use Rattle.round.specs.declared.refusal.TakeRefusal.TheVariants.{SameUniqueWord, Identifier, ContentId, NoValue, BrokenOff}
use Rattle.round.specs.Refusals.{of_frame}

-- No round is open; one is open, with its card so far and the last Content ID; in one a telephone or a message is unfinished,
-- with its words so far; in one the closing 0 has come.
pub data State : Type 0 where
  waiting : State
  opened : CardValue → ℕ → State
  unfinished : CardValue → ℕ → List ℕ → State
  closing : CardValue → State

-- the first ID of a set, and the last
unfoldable pub begins : ℕ → Bool
begins id = id == 1 || (id == 2 || (id == 3 || id == 6))

unfoldable pub completes : ℕ → Bool
completes id = id == 1 || (id == 2 || (id == 5 || id == 12))

-- the round goes on after this ID with the field in its card, if a lawful value has the words
unfoldable pub stored : {V : Type 0} → ℕ → ℕ → (V → CardValue) → Option V → Result State TakeRefusal
stored half id put None = Err (NoValue half id)
stored half id put (Some v) = Ok (opened (put v) id)

-- a set's last word has come
unfoldable pub filled : ℕ → CardValue → ℕ → List ℕ → Result State TakeRefusal
filled half c id words =
    cond (id == 1) (stored half id (λ v. with_latitude (Some v) c) (taken_apart latitude_kind words))
    (cond (id == 2) (stored half id (λ v. with_longitude (Some v) c) (taken_apart longitude_kind words))
    (cond (id == 5) (stored half id (λ v. with_telephone (Some v) c) (taken_apart telephone_kind words))
    (stored half id (λ v. with_message (Some v) c) (taken_apart message_kind words))))

-- a word joins the others of its set
unfoldable pub joined : ℕ → CardValue → ℕ → List ℕ → Result State TakeRefusal
joined half c id words = cond (completes id) (filled half c id words) (Ok (unfinished c id words))

-- ID 0 carries 0x000001 and nothing else
unfoldable pub marked : ℕ → ℕ → State → Result State TakeRefusal
marked half word s = cond (word == 0x000001) (Ok s) (Err (NoValue half 0))

-- a half within a round; without one nothing is looked at
unfoldable pub advanced : ℕ → State → Content → Result State TakeRefusal
advanced half waiting x = Ok waiting
advanced half (opened c last) x =
    cond (x.id == 0) (marked half x.word (closing c))
    (cond (nat_lt last x.id && begins x.id) (joined half c x.id (x.word ∷ [])) (Err (ContentId half x.id)))
advanced half (unfinished c last words) x =
    cond (x.id == 0) (Err (BrokenOff half x.id))
    (cond (x.id == suc last) (joined half c x.id (words ++ (x.word ∷ []))) (Err (ContentId half x.id)))
advanced half (closing c) x = Err (ContentId half x.id)

-- ID 0 in half 1 opens a round for the identifier d
unfoldable pub opening : List ℕ → State → Content → Result State TakeRefusal
opening d waiting x = marked 1 x.word (opened (blank d) 0)
opening d (opened c last) x = marked 1 x.word (opened (blank d) 0)
opening d (unfinished c last words) x = Err (BrokenOff 1 x.id)
opening d (closing c) x = marked 1 x.word (opened (blank d) 0)

unfoldable pub first_half : List ℕ → State → Content → Result State TakeRefusal
first_half d s x = cond (x.id == 0) (opening d s x) (advanced 1 s x)

unfoldable pub second_half : Content → Result State TakeRefusal → Result State TakeRefusal
second_half x (Ok s) = advanced 2 s x
second_half x (Err e) = Err e

-- half 1, then half 2
unfoldable pub halves : State → Frame → Result State TakeRefusal
halves s f = second_half f.second (first_half f.identifier s f.first)

-- the card so far of the open round
unfoldable pub round_card : State → Option CardValue
round_card waiting = None
round_card (opened c last) = Some c
round_card (unfinished c last words) = Some c
round_card (closing c) = Some c

-- what is answered to a block or a take that is not refused
pub data Answer : Type 0 where
  counted : Answer
  passed_over : Answer
  taken : Answer
  closed : CardValue → Answer

-- to an accepted take: by the round that was open before it, and whether its first ID is 0
unfoldable pub told : Option CardValue → Bool → Answer
told None false = passed_over
told None true = taken
told (Some c) false = taken
told (Some c) true = closed c

-- what the reader keeps from take to take: the round, the unique word of the last accepted take, and the card closed last
pub record Reading : Type 0 where
  pub state : State
  pub unique : Option ℕ
  pub card : Option CardValue

abbrev pub fresh : Reading
fresh = record { state = waiting; unique = None; card = None }

-- what a take is answered with, and what the reader keeps then
pub record Outcome : Type 0 where
  pub answer : Result Answer TakeRefusal
  pub after : Reading

-- a refused take closes nothing; the open round and the last unique word are forgotten, the closed card is not
unfoldable pub refusing : Reading → TakeRefusal → Outcome
refusing r e = record { answer = Err e; after = record { state = waiting; unique = None; card = r.card } }

-- a closed card stands until the next closing
unfoldable pub card_after : Answer → Option CardValue → Option CardValue
card_after counted o = o
card_after passed_over o = o
card_after taken o = o
card_after (closed c) o = Some c

unfoldable pub accepting : Reading → ℕ → State → Answer → Outcome
accepting r unique s a = record { answer = Ok a; after = record { state = s; unique = Some unique; card = card_after a r.card } }

unfoldable pub following : Reading → Frame → Result State TakeRefusal → Outcome
following r f (Ok s) = accepting r f.unique s (told (round_card r.state) (f.first.id == 0))
following r f (Err e) = refusing r e

-- the unique word is that of the last accepted take
unfoldable pub repeats : Option ℕ → ℕ → Bool
repeats None unique = false
repeats (Some before) unique = before == unique

-- the identifier is lawful, and that of the open round
unfoldable pub agrees : Option CardValue → List ℕ → Bool
agrees None d = keeps_first_octet d
agrees (Some c) d = keeps_first_octet d && distance c.identifier d == 0

-- what a take is answered with, judged as a frame or refused as one
unfoldable pub on_frame : Reading → Frame → Outcome
on_frame r f =
    cond (repeats r.unique f.unique) (refusing r SameUniqueWord)
    (cond (agrees (round_card r.state) f.identifier) (following r f (halves r.state f)) (refusing r Identifier))

unfoldable pub on_take : Reading → Result Frame FrameRefusal → Outcome
on_take r (Ok f) = on_frame r f
on_take r (Err e) = refusing r (of_frame e)

-- what the reader keeps after takes, and the answers to them
unfoldable pub reading_after : Reading → List (Result Frame FrameRefusal) → Reading
reading_after r [] = r
reading_after r (t ∷ ts) = reading_after (on_take r t).after ts

unfoldable pub answers_to : Reading → List (Result Frame FrameRefusal) → List (Result Answer TakeRefusal)
answers_to r [] = []
answers_to r (t ∷ ts) = (on_take r t).answer ∷ answers_to (on_take r t).after ts
