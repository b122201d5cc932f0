-- The sequence's halves in order, first and second by turns, and what a take of two of them does.
use Rattle.std.proofs.Common.{◌≡◌, ℕ, suc, ◌%◌, Bool, true, false, cond, eqb, List, [], ◌∷◌, ◌++◌, length, Some, Ok, Option, sym, refl, ap, ◌∙◌, arith}
use Rattle.std.proofs.lemmas.Bool.{eq-eqb, ne_eqb, and_from, cond-true, cond-false}
use Rattle.std.proofs.lemmas.Bool.Decides.{nat_tests}
use Rattle.coding.specs.Distance.{distance}
use Rattle.coding.proofs.Distances.{distance_self}
use Rattle.card.specs.Fields.{keeps_first_octet}
use Rattle.card.specs.Card.{CardValue, blank}
use Rattle.content.specs.Sequence.{marker, field_sets, sequence}
use Rattle.content.specs.declared.entry.Content.{Content}
use Rattle.frame.specs.declared.carried.Frame.{Frame}
use Rattle.round.specs.Rounds.{State, Reading, marked, advanced, opening, first_half, second_half, halves, round_card, told, refusing, accepting, following, repeats, agrees, on_frame}
use Rattle.round.specs.Rounds.State.{opened, closing}
use Rattle.round.specs.declared.refusal.TakeRefusal.TheVariants.{SameUniqueWord, Identifier}
use Rattle.round_laws.proofs.Walks.{InRound, Walk}

-- from half 1 (true) or half 2 (false) on, to the end of the sequence; in half 1 no ID is 0
abbrev pub Goes : List ℕ → Bool → List Content → State → State → Type 0
Goes d true [] s u = s ≡ u
Goes d false [] s u = ⊥
Goes d true (x ∷ xs) s u = InRound d s × (x.id ≡ 0 → ⊥) × ((t : State) × (advanced 1 s x ≡ Ok t) × Goes d false xs t u)
Goes d false (x ∷ xs) s u = (t : State) × (advanced 2 s x ≡ Ok t) × Goes d true xs t u

-- a list that has to end with half 2: a second ID 0 where that is left
abbrev pub ended_by : Bool → List Content → List Content
ended_by true [] = []
ended_by false [] = marker ∷ []
ended_by true (x ∷ xs) = x ∷ ended_by false xs
ended_by false (x ∷ xs) = x ∷ ended_by true xs

-- a round is whole with this card: another may open
pub record Whole (c : CardValue) (u : State) : Type 0 where
  pub round : round_card u ≡ Some c
  pub opens : (d : List ℕ) (x : Content) → opening d u x ≡ marked 1 x.word (opened (blank d) 0)

pub goes_from : (b : Bool) (c : CardValue) (m : ℕ) (xs : List Content) (s : State) → Walk c.identifier xs s (opened c m)
    → (u : State) × Goes c.identifier b (ended_by b xs) s u × Whole c u
unfolding round_card opening advanced marked
goes_from true c m [] s e = (opened c m, e, record { round = refl; opens = λ d x. refl })
goes_from false c m [] s e = (
  closing c,
  (closing c, ap (λ (t : State). advanced 2 t marker) e, refl),
  record { round = refl; opens = λ d x. refl },
)
goes_from true c m (x ∷ xs) s w = let g = goes_from false c m xs w.2.0 w.2.2 in
    (g.0, (w.0, w.1, (w.2.0, w.2.1 1, g.1)), g.2)
goes_from false c m (x ∷ xs) s w = let g = goes_from true c m xs w.2.0 w.2.2 in (g.0, (w.2.0, w.2.1 2, g.1), g.2)

-- the sequence is such a list
ended_is : (b : Bool) (xs : List Content) → ended_by b xs ≡ cond (eqb (length xs % 2) (cond b 1 0)) (xs ++ (marker ∷ [])) xs
ended_is true [] = refl
ended_is false [] = refl
ended_is true (x ∷ xs) =
    let e : eqb (suc (length xs) % 2) 1 ≡ eqb (length xs % 2) 0 = grind (arith, nat_tests) in
    ap (λ (l : List Content). x ∷ l) (ended_is false xs) ∙ into (eqb (length xs % 2) 0)
    ∙ ap (λ (t : Bool). cond t (x ∷ (xs ++ (marker ∷ []))) (x ∷ xs)) (sym e)
  where
    into : (t : Bool) → ◌≡◌ {A = List Content} (x ∷ cond t (xs ++ (marker ∷ [])) xs) (cond t (x ∷ (xs ++ (marker ∷ []))) (x ∷ xs))
    into true = refl
    into false = refl
ended_is false (x ∷ xs) =
    let e : eqb (suc (length xs) % 2) 0 ≡ eqb (length xs % 2) 1 = grind (arith, nat_tests) in
    ap (λ (l : List Content). x ∷ l) (ended_is true xs) ∙ into (eqb (length xs % 2) 1)
    ∙ ap (λ (t : Bool). cond t (x ∷ (xs ++ (marker ∷ []))) (x ∷ xs)) (sym e)
  where
    into : (t : Bool) → ◌≡◌ {A = List Content} (x ∷ cond t (xs ++ (marker ∷ [])) xs) (cond t (x ∷ (xs ++ (marker ∷ []))) (x ∷ xs))
    into true = refl
    into false = refl

pub sequence_is : (c : CardValue) → sequence c ≡ marker ∷ ended_by false (field_sets c)
sequence_is c = sym (ended_is true (marker ∷ field_sets c))

-- an accepted take
pub accepted : (r : Reading) (f : Frame) (s : State) → repeats r.unique f.unique ≡ false
    → agrees (round_card r.state) f.identifier ≡ true → halves r.state f ≡ Ok s
    → on_frame r f ≡ accepting r f.unique s (told (round_card r.state) (eqb f.first.id 0))
unfolding on_frame following
accepted r f s h a e =
    cond-false (repeats r.unique f.unique) (refusing r SameUniqueWord) _ h
    ∙ cond-true (agrees (round_card r.state) f.identifier) (following r f (halves r.state f)) (refusing r Identifier) a
    ∙ ap (following r f) e

pub agreeing : (d : List ℕ) (s : State) → keeps_first_octet d ≡ true → InRound d s → agrees (round_card s) d ≡ true
unfolding agrees
agreeing d s h w =
    ap (λ (o : Option CardValue). agrees o d) w.1
    ∙ and_from (keeps_first_octet d) (eqb (distance w.0.identifier d) 0) h
    (eq-eqb _ 0 (ap (λ (i : List ℕ). distance i d) w.2 ∙ distance_self d))

-- two halves, the first with an ID other than 0
pub two_halves : (s t u : State) (f : Frame) → (f.first.id ≡ 0 → ⊥) → advanced 1 s f.first ≡ Ok t → advanced 2 t f.second ≡ Ok u
    → halves s f ≡ Ok u
unfolding halves second_half first_half
two_halves s t u f n e g =
    ap (second_half f.second) (cond-false (eqb f.first.id 0) (opening f.identifier s f.first) (advanced 1 s f.first)
    (ne_eqb f.first.id 0 n) ∙ e) ∙ g

-- two halves, the first with ID 0
pub opening_halves : (s u : State) (f : Frame) → f.first ≡ marker
    → opening f.identifier s f.first ≡ marked 1 f.first.word (opened (blank f.identifier) 0)
    → advanced 2 (opened (blank f.identifier) 0) f.second ≡ Ok u → halves s f ≡ Ok u
unfolding halves second_half first_half marked
opening_halves s u f z e g =
    ap (second_half f.second)
    (cond-true (eqb f.first.id 0) (opening f.identifier s f.first) (advanced 1 s f.first)
    (ap (λ (x : Content). eqb x.id 0) z)
    ∙ e ∙ ap (λ (x : Content). marked 1 x.word (opened (blank f.identifier) 0)) z)
    ∙ g
