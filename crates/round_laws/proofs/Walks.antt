-- A round as a walk, half by half: from a state whose last ID lies below a field's set, the set's entries lead to the card with the
-- field whose words they are.
use Rattle.std.proofs.Common.{◌≡◌, ℕ, suc, ◌+◌, ◌<◌, ◌≤◌, true, eqb, ltb, List, [], ◌∷◌, ◌++◌, length, Some, None, Ok, Err, Option, sym, refl, ap, ◌∙◌, append_assoc, arith}
use Rattle.std.proofs.lemmas.Bool.{eq-eqb, ne_eqb, lt-ltb, and_from, cond-true, cond-false}
use Rattle.card.specs.Fields.{missing_or}
use Rattle.card.specs.Card.{CardValue, Lawful, blank}
use Rattle.content.specs.Sequence.{numbered, set_of, field_sets}
use Rattle.content.specs.declared.entry.Content.{Content}
use Rattle.round.specs.Rounds.{State, begins, completes, stored, filled, joined, marked, advanced, round_card}
use Rattle.round.specs.Rounds.State.{opened, unfinished, closing}
use Rattle.round.specs.declared.refusal.TakeRefusal.TheVariants.{ContentId, BrokenOff}
use Rattle.round_laws.proofs.Sets.{Field, IsSet, latitude_field, longitude_field, telephone_field, message_field, latitude_set, longitude_set, telephone_set, message_set}

-- a round of this identifier is open
abbrev pub InRound : List ℕ → State → Type 0
InRound d s = (c : CardValue) × (round_card s ≡ Some c) × (c.identifier ≡ d)

-- entries, none with ID 0, lead from one state to another, in whichever half they come
abbrev pub Walk : List ℕ → List Content → State → State → Type 0
Walk d [] s u = s ≡ u
Walk d (x ∷ xs) s u = InRound d s × (x.id ≡ 0 → ⊥) × ((t : State) × ((half : ℕ) → advanced half s x ≡ Ok t) × Walk d xs t u)

pub walk_append : (d : List ℕ) (xs ys : List Content) (s t u : State) → Walk d xs s t → Walk d ys t u → Walk d (xs ++ ys) s u
walk_append d [] ys s t u e w = rw e w
walk_append d (x ∷ xs) ys s t u w v = (w.0, w.1, (w.2.0, w.2.1, walk_append d xs ys w.2.0 t u w.2.2 v))

-- a half that begins its set
set_begun : (half : ℕ) (c : CardValue) (last : ℕ) (x : Content) → last < x.id → begins x.id ≡ true
    → advanced half (opened c last) x ≡ joined half c x.id (x.word ∷ [])
unfolding advanced
set_begun half c last x h b =
    cond-false (eqb x.id 0) (marked half x.word (closing c)) _ (ne_eqb x.id 0 (λ e. omega arith))
    ∙ cond-true _ (joined half c x.id (x.word ∷ [])) (Err (ContentId half x.id))
    (and_from (ltb last x.id) (begins x.id) (lt-ltb last x.id h) b)

-- and one that goes on with it
set_continued : (half : ℕ) (c : CardValue) (last : ℕ) (ws : List ℕ) (w : ℕ)
    → advanced half (unfinished c last ws) (record { id = suc last; word = w }) ≡ joined half c (suc last) (ws ++ (w ∷ []))
unfolding advanced
set_continued half c last ws w =
    cond-false (eqb (suc last) 0) (Err (BrokenOff half (suc last))) _ (ne_eqb (suc last) 0 (λ e. omega arith))
    ∙ cond-true _ (joined half c (suc last) (ws ++ (w ∷ []))) (Err (ContentId half (suc last))) (eq-eqb (suc last) (suc last) refl)

module _ {V : Type 0} (f : Field V) (is : IsSet f) (c : CardValue) (v : V) (lawful : f.kind.lawful v ≡ true) where
  -- at the set's last ID the field is filled
  at_last : (half : ℕ) (ws : List ℕ) → ws ≡ f.kind.words v → joined half c f.last ws ≡ Ok (opened (f.put (Some v) c) f.last)
  unfolding joined stored
  at_last half ws e =
      cond-true (completes f.last) (filled half c f.last ws) (Ok (unfinished c f.last ws)) is.ending
      ∙ is.fills half c ws
      ∙ ap (stored half f.last (λ v. f.put (Some v) c)) ((is.rule.some ws v).1 (lawful, sym e))

  inside : (half id : ℕ) (ws : List ℕ) → f.first ≤ id → id < f.last → joined half c id ws ≡ Ok (unfinished c id ws)
  unfolding joined
  inside half id ws a b = cond-false (completes id) (filled half c id ws) (Ok (unfinished c id ws)) (is.inside id a b)

  rest : (todo done : List ℕ) (w id : ℕ) → done ++ (w ∷ todo) ≡ f.kind.words v → f.first ≤ id → suc id + length todo ≡ f.last
      → Walk c.identifier (numbered (suc id) (w ∷ todo)) (unfinished c id done) (opened (f.put (Some v) c) f.last)
  unfolding numbered round_card
  rest [] done w id e a b =
      let j : suc id ≡ f.last = omega arith in (
        (c, refl, refl),
        (λ q. omega arith),
        (
          opened (f.put (Some v) c) f.last,
          (λ half. set_continued half c id done w ∙ ap (λ (m : ℕ). joined half c m (done ++ (w ∷ []))) j
              ∙ at_last half (done ++ (w ∷ [])) e),
          refl,
        ),
      )
  rest (w' ∷ todo) done w id e a b = (
    (c, refl, refl),
    (λ q. omega arith),
    (
      unfinished c (suc id) (done ++ (w ∷ [])),
      (λ half. set_continued half c id done w ∙ inside half (suc id) (done ++ (w ∷ [])) (omega arith) (omega arith)),
      rest todo (done ++ (w ∷ [])) w' (suc id) (append_assoc done (w ∷ []) (w' ∷ todo) ∙ e) (omega arith) (omega arith),
    ),
  )

  whole : (ws : List ℕ) (last : ℕ) → ws ≡ f.kind.words v → last < f.first → f.first + length ws ≡ suc f.last
      → Walk c.identifier (numbered f.first ws) (opened c last) (opened (f.put (Some v) c) f.last)
  unfolding numbered round_card
  whole [] last e h n = absurd (omega (arith, is.order))
  whole (w ∷ []) last e h n =
      let j : f.first ≡ f.last = omega arith in (
        (c, refl, refl),
        (λ q. omega arith),
        (
          opened (f.put (Some v) c) f.last,
          (λ half. set_begun half c last (record { id = f.first; word = w }) h is.beginning
              ∙ ap (λ (m : ℕ). joined half c m (w ∷ [])) j ∙ at_last half (w ∷ []) e),
          refl,
        ),
      )
  whole (w ∷ w' ∷ ws) last e h n = (
    (c, refl, refl),
    (λ q. omega arith),
    (
      unfinished c f.first (w ∷ []),
      (λ half. set_begun half c last (record { id = f.first; word = w }) h is.beginning
          ∙ inside half f.first (w ∷ []) (omega arith) (omega arith)),
      rest ws (w ∷ []) w' f.first e (omega arith) (omega arith),
    ),
  )

-- a field, present or missing, from a state whose last ID lies below its set
walk_field : {V : Type 0} (f : Field V) → IsSet f → (c : CardValue) (o : Option V) (last : ℕ) → last < f.first
    → missing_or f.kind.lawful o ≡ true → f.put None c ≡ c
    → (m : ℕ) × (m ≤ f.last) × Walk c.identifier (set_of f.kind f.first o) (opened c last) (opened (f.put o c) m)
walk_field f is c None last h a e = (last, omega (arith, is.order), ap (λ (d : CardValue). opened d last) (sym e))
walk_field f is c (Some v) last h a e = (f.last, omega arith, whole f is c v a (f.kind.words v) last refl h (is.count v))

-- the four in a row, of any lawful card
pub walk_sets : (c : CardValue) → Lawful c → (m : ℕ) × Walk c.identifier (field_sets c) (opened (blank c.identifier) 0) (opened c m)
walk_sets c a =
    let d = c.identifier in
    let c₀ = blank d in
    let w₁ = walk_field latitude_field latitude_set c₀ c.latitude 0 (omega arith) a.latitude refl in
    let c₁ = latitude_field.put c.latitude c₀ in
    let w₂ = walk_field longitude_field longitude_set c₁ c.longitude w₁.0 (omega (arith, w₁.1)) a.longitude refl in
    let c₂ = longitude_field.put c.longitude c₁ in
    let w₃ = walk_field telephone_field telephone_set c₂ c.telephone w₂.0 (omega (arith, w₂.1)) a.telephone refl in
    let c₃ = telephone_field.put c.telephone c₂ in
    let w₄ = walk_field message_field message_set c₃ c.message w₃.0 (omega (arith, w₃.1)) a.message refl in (
      w₄.0,
      walk_append d (set_of latitude_field.kind 1 c.latitude) _ (opened c₀ 0) (opened c₁ w₁.0) (opened c w₄.0) w₁.2
          (walk_append d (set_of longitude_field.kind 2 c.longitude) _ (opened c₁ w₁.0) (opened c₂ w₂.0) (opened c w₄.0)
          w₂.2
          (walk_append d (set_of telephone_field.kind 3 c.telephone) _ (opened c₂ w₂.0) (opened c₃ w₃.0) (opened c w₄.0)
          w₃.2 w₄.2)),
    )
