-- What the reader keeps follows from the frames accepted since the last refused take; each take is accepted, or breaks the rule that
-- its refusal stands for.
use Rattle.std.proofs.Common.{◌≡◌, ℕ, Bool, true, false, eqb, ◌⊎◌, List, [], ◌∷◌, ◌++◌, length, Some, None, Err, Option, sym, refl, ap, ◌∙◌, subst, inl, inr, arith}
use Rattle.std.specs.List.{AllByRecursion}
use Rattle.std.proofs.ByRecursion.{All-push, All-weaker}
use Rattle.std.proofs.lemmas.Bool.{eq-eqb, eqb-true, and_parts, and_from, cond-true, cond-false, cases_eq, cases_Bool, both_ways}
use Rattle.coding.specs.Distance.{distance}
use Rattle.coding.proofs.Distances.{distance_self, distance_zero}
use Rattle.card.specs.Fields.{keeps_first_octet}
use Rattle.card.specs.Card.{CardValue}
use Rattle.content.specs.declared.entry.Content.{Content}
use Rattle.frame.specs.declared.carried.Frame.{Frame}
use Rattle.round.specs.Rounds.{State, Answer, Reading, advanced, halves, round_card, told, refusing, accepting, following, repeats, agrees, on_frame}
use Rattle.round.specs.Rounds.State.{waiting, opened, unfinished, closing}
use Rattle.round.specs.declared.refusal.TakeRefusal.{TakeRefusal}
use Rattle.round.specs.declared.refusal.TakeRefusal.TheVariants.{SameUniqueWord, Identifier}
use Rattle.round_laws.specs.Closings.{carried}
use Rattle.round_laws.specs.Exactly.{open_round, so_far, last_unique, Repeats, Belongs, Fits, with_first, Refused}
use Rattle.round_laws.specs.Exactly.Refused.{repeats as repeating, foreign, in_first, in_second}
use Rattle.round_laws.proofs.OpenRounds.{unique_push, round_begins, round_goes_on, round_none, carried_more, carried_anew, carried_none}
use Rattle.round_laws.proofs.Halves.{accepted, two_halves}
use Rattle.round_laws.proofs.Follows.{Follows}
use Rattle.round_laws.proofs.BothHalves.{Judgement, judgement}
use Rattle.round_laws.proofs.BothHalves.Judgement.{orderly, first, second}

-- what the reader keeps, told from the frames accepted since the last refused take
pub record Tracked (before : List Frame) (r : Reading) : Type 0 where
  pub unique : r.unique ≡ last_unique before
  pub identifier : List ℕ
  pub identified : AllByRecursion (λ g. g.identifier ≡ identifier) (open_round before)
  pub follows : Follows identifier r.state (so_far before)

-- no round is open and nothing is carried, or one is
abbrev pub Standing : List ℕ → State → List Content → Type 0
Standing d s xs = ((s ≡ waiting) × (xs ≡ [])) ⊎ ((c : CardValue) × (round_card s ≡ Some c) × (c.identifier ≡ d) × (xs ≡ [] → ⊥))

pub standing : (d : List ℕ) (s : State) (xs : List Content) → Follows d s xs → Standing d s xs
unfolding round_card
standing d waiting xs f = inl (refl, f)
standing d (opened c last) xs f = inr (c, refl, f.1, λ e. omega (arith, ap length e, ap length f.2.carries))
standing d (unfinished c last ws) xs f =
    inr (
      c,
      refl,
      f.1,
      λ e. elim f.2 [
        | inl b ↦ omega (arith, ap length e, ap length b.carries)
        | inr b ↦ omega (arith, ap length e, ap length b.carries)
      ],
    )
standing d (closing c) xs f = inr (c, refl, f.1, λ e. omega (arith, ap length e, f.2.more))

-- frames that all have the one identifier and all have the other
one_identifier : (fs : List Frame) (a b : List ℕ) → (fs ≡ [] → ⊥) → AllByRecursion (λ g. g.identifier ≡ a) fs → AllByRecursion (λ g. g.identifier ≡ b) fs
    → a ≡ b
one_identifier [] a b s p q = absurd (s refl)
one_identifier (g ∷ gs) a b s p q = sym p.0 ∙ q.0

repeats_true : (o : Option ℕ) (u : ℕ) → repeats o u ≡ true → o ≡ Some u
unfolding repeats
repeats_true None u h = absurd (both_ways false refl h)
repeats_true (Some v) u h = ap Some (eqb-true v u h)

repeats_false : (o : Option ℕ) (u : ℕ) → repeats o u ≡ false → o ≡ Some u → ⊥
unfolding repeats
repeats_false o u h e = both_ways (repeats o u) h (ap (λ (p : Option ℕ). repeats p u) e ∙ eq-eqb u u refl)

module _ (before : List Frame) (r : Reading) (k : Tracked before r) (f : Frame) where
  belongs : agrees (round_card r.state) f.identifier ≡ true → Belongs before f
  unfolding agrees round_card
  belongs h = by (standing k.identifier r.state (so_far before) k.follows)
    where
      by : Standing k.identifier r.state (so_far before) → Belongs before f
      by (inl p) = record {
        lawful = sym (ap (λ (s : State). agrees (round_card s) f.identifier) p.0) ∙ h;
        same = subst (AllByRecursion (λ g. g.identifier ≡ f.identifier)) (sym (carried_none (open_round before) p.1)) tt;
      }
      by (inr p) =
          let q = and_parts (keeps_first_octet f.identifier) (eqb (distance p.0.identifier f.identifier) 0)
          (sym (ap (λ (o : Option CardValue). agrees o f.identifier) p.1) ∙ h) in
          let e : k.identifier ≡ f.identifier = sym p.2 ∙ distance_zero p.0.identifier f.identifier (eqb-true _ 0 q.1) in
          record {
            lawful = q.0;
            same = All-weaker (λ g. g.identifier ≡ k.identifier) (λ g. g.identifier ≡ f.identifier)
                (λ g i. i ∙ e) (open_round before) k.identified;
          }

  -- the round is then of the frame's identifier
  pub follows_here : Belongs before f → Follows f.identifier r.state (so_far before)
  unfolding carried
  follows_here b = by (standing k.identifier r.state (so_far before) k.follows)
    where
      by : Standing k.identifier r.state (so_far before) → Follows f.identifier r.state (so_far before)
      by (inl p) = subst (λ (s : State). Follows f.identifier s (so_far before)) (sym p.0) p.1
      by (inr p) =
          let e : k.identifier ≡ f.identifier = one_identifier (open_round before) k.identifier f.identifier
          (λ z. p.3 (ap carried z)) k.identified b.same in
          subst (λ (d : List ℕ). Follows d r.state (so_far before)) e k.follows

  agreed : Belongs before f → agrees (round_card r.state) f.identifier ≡ true
  unfolding agrees round_card
  agreed b = by (standing f.identifier r.state (so_far before) (follows_here b))
    where
      by : Standing f.identifier r.state (so_far before) → agrees (round_card r.state) f.identifier ≡ true
      by (inl p) = ap (λ (s : State). agrees (round_card s) f.identifier) p.0 ∙ b.lawful
      by (inr p) =
          ap (λ (o : Option CardValue). agrees o f.identifier) p.1
          ∙ and_from (keeps_first_octet f.identifier) (eqb (distance p.0.identifier f.identifier) 0) b.lawful
          (eq-eqb _ 0 (ap (λ (i : List ℕ). distance i f.identifier) p.2 ∙ distance_self f.identifier))

-- a frame is accepted and, with the others, tells what the reader keeps; or it is refused
pub data Met (before : List Frame) (r : Reading) (f : Frame) : Type 0 where
  accepts : (s : State) → on_frame r f ≡ accepting r f.unique s (told (round_card r.state) (eqb f.first.id 0))
      → Tracked (before ++ (f ∷ [])) (accepting r f.unique s (told (round_card r.state) (eqb f.first.id 0))).after
      → Fits before f → ((e : TakeRefusal) → Refused before f e → ⊥) → Met before r f
  refuses : (e : TakeRefusal) → on_frame r f ≡ refusing r e → Refused before f e → Met before r f

-- a frame whose halves are refused
denied : (r : Reading) (f : Frame) (e : TakeRefusal) → repeats r.unique f.unique ≡ false
    → agrees (round_card r.state) f.identifier ≡ true → halves r.state f ≡ Err e
    → on_frame r f ≡ refusing r e
unfolding on_frame following
denied r f e n a h =
    cond-false (repeats r.unique f.unique) (refusing r SameUniqueWord) _ n
    ∙ cond-true (agrees (round_card r.state) f.identifier) (following r f (halves r.state f)) (refusing r Identifier) a
    ∙ ap (following r f) h

module _ (before : List Frame) (r : Reading) (k : Tracked before r) (f : Frame) (alternates : repeats r.unique f.unique ≡ false)
    (agree : agrees (round_card r.state) f.identifier ≡ true) (fits : Fits before f) where
  abbrev answer : Answer
  answer = told (round_card r.state) (eqb f.first.id 0)

  tracked_round : (u : State) → (open_round before ≡ [] → ⊥) ⊎ (f.first.id ≡ 0)
      → Follows f.identifier u (with_first (so_far before) f.first ++ (f.second ∷ []))
      → Tracked (before ++ (f ∷ [])) (accepting r f.unique u answer).after
  unfolding accepting
  tracked_round u o g = record {
    unique = sym (unique_push before f);
    identifier = f.identifier;
    identified = all_same (cases_eq f.first.id 0) o;
    follows = subst (Follows f.identifier u) (sym (grown (cases_eq f.first.id 0) o)) g;
  }
    where
      some : (f.first.id ≡ 0 → ⊥) → (open_round before ≡ [] → ⊥) ⊎ (f.first.id ≡ 0) → open_round before ≡ [] → ⊥
      some n (inl p) = p
      some n (inr z) = absurd (n z)

      all_same : (f.first.id ≡ 0) ⊎ (f.first.id ≡ 0 → ⊥) → (open_round before ≡ [] → ⊥) ⊎ (f.first.id ≡ 0)
          → AllByRecursion (λ g. g.identifier ≡ f.identifier) (open_round (before ++ (f ∷ [])))
      all_same (inl z) o = subst (AllByRecursion (λ g. g.identifier ≡ f.identifier)) (sym (round_begins before f z)) (refl, tt)
      all_same (inr n) o =
          subst (AllByRecursion (λ g. g.identifier ≡ f.identifier)) (sym (round_goes_on before f n (some n o)))
          (All-push (λ g. g.identifier ≡ f.identifier) (open_round before) f fits.belongs.same refl)

      grown : (f.first.id ≡ 0) ⊎ (f.first.id ≡ 0 → ⊥) → (open_round before ≡ [] → ⊥) ⊎ (f.first.id ≡ 0)
          → so_far (before ++ (f ∷ [])) ≡ with_first (so_far before) f.first ++ (f.second ∷ [])
      grown (inl z) o = carried_anew before f z
      grown (inr n) o = carried_more before f n (some n o)

  -- a frame of a round
  met_round : (open_round before ≡ [] → ⊥) ⊎ (f.first.id ≡ 0) → Met before r f
  met_round o = by (judgement r.state (so_far before) f fits.belongs.lawful (follows_here before r k f fits.belongs) (some o))
    where
      some : (open_round before ≡ [] → ⊥) ⊎ (f.first.id ≡ 0) → (so_far before ≡ [] → ⊥) ⊎ (f.first.id ≡ 0)
      some (inl p) = inl (λ e. p (carried_none (open_round before) e))
      some (inr z) = inr z

      by : Judgement f.identifier (so_far before) f (halves r.state f) → Met before r f
      by (orderly u h g n m) =
          accepts u (accepted r f u alternates agree h) (tracked_round u o g) fits none
        where
          none : (e : TakeRefusal) → Refused before f e → ⊥
          none e (repeating p) = fits.alternates p
          none e (foreign p q) = q fits.belongs
          none e (in_first i b) = n e b
          none e (in_second i p b) = m e b
      by (first e h b) = refuses e (denied r f e alternates agree h) (in_first (record { fits = fits; round = o }) b)
      by (second e h n b) = refuses e (denied r f e alternates agree h) (in_second (record { fits = fits; round = o }) n b)

  -- a frame of none
  met_none : (f.first.id ≡ 0 → ⊥) → r.state ≡ waiting → open_round before ≡ [] → Met before r f
  unfolding advanced accepting carried
  met_none n e z =
      accepts waiting (accepted r f waiting alternates agree
      (two_halves r.state waiting waiting f n (ap (λ (s : State). advanced 1 s f.first) e) refl))
      (record {
        unique = sym (unique_push before f);
        identifier = f.identifier;
        identified = subst (AllByRecursion (λ g. g.identifier ≡ f.identifier)) (sym (round_none before f n z)) tt;
        follows = ap carried (round_none before f n z);
      })
      fits none
    where
      no_round : (open_round before ≡ [] → ⊥) ⊎ (f.first.id ≡ 0) → ⊥
      no_round (inl p) = p z
      no_round (inr q) = n q

      none : (e : TakeRefusal) → Refused before f e → ⊥
      none e (repeating p) = fits.alternates p
      none e (foreign p q) = q fits.belongs
      none e (in_first i b) = no_round i.round
      none e (in_second i p b) = no_round i.round

  met_fitting : Met before r f
  unfolding carried
  met_fitting = by (cases_eq f.first.id 0) (standing f.identifier r.state (so_far before)
      (follows_here before r k f fits.belongs))
    where
      by : (f.first.id ≡ 0) ⊎ (f.first.id ≡ 0 → ⊥) → Standing f.identifier r.state (so_far before) → Met before r f
      by (inl z) s = met_round (inr z)
      by (inr n) (inl p) = met_none n p.0 (carried_none (open_round before) p.1)
      by (inr n) (inr p) = met_round (inl (λ z. p.3 (ap carried z)))

pub met : (before : List Frame) (r : Reading) (k : Tracked before r) (f : Frame) → Met before r f
unfolding on_frame
met before r k f = by (cases_Bool (repeats r.unique f.unique)) (cases_Bool (agrees (round_card r.state) f.identifier))
  where
    u : Bool
    u = repeats r.unique f.unique

    a : Bool
    a = agrees (round_card r.state) f.identifier

    alternates : u ≡ false → Repeats before f → ⊥
    alternates h e = repeats_false r.unique f.unique h (k.unique ∙ e)

    by : (u ≡ true) ⊎ (u ≡ false) → (a ≡ true) ⊎ (a ≡ false) → Met before r f
    by (inl h) p = refuses SameUniqueWord (cond-true u (refusing r SameUniqueWord) _ h)
        (repeating (sym k.unique ∙ repeats_true r.unique f.unique h))
    by (inr h) (inl p) = met_fitting before r k f h p (record { alternates = alternates h; belongs = belongs before r k f p })
    by (inr h) (inr p) =
        refuses Identifier (cond-false u (refusing r SameUniqueWord) _ h
        ∙ cond-false a (following r f (halves r.state f)) (refusing r Identifier) p)
        (foreign (alternates h) (λ b. both_ways a p (agreed before r k f b)))
