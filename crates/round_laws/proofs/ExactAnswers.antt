-- Exactly when each answer comes to a frame.
use Rattle.std.proofs.Common.{◌≡◌, ℕ, Bool, true, false, eqb, ◌⊎◌, ◌↔◌, List, [], length, Some, None, Ok, Err, Option, Result, sym, refl, ap, ◌∙◌, subst, inl, inr, arith}
use Rattle.std.proofs.lemmas.Bool.{eq-eqb, ne_eqb, cases_eq}
use Rattle.card.specs.Card.{CardValue, Lawful}
use Rattle.content.specs.Kinds.{latitude_kind, longitude_kind, telephone_kind, message_kind}
use Rattle.content.specs.Laws.{words_under, field_from}
use Rattle.content.specs.Sequence.{sequence}
use Rattle.content.specs.declared.entry.Content.{Content}
use Rattle.content.proofs.ReadBack.{sequence_laws}
use Rattle.frame.specs.declared.carried.Frame.{Frame}
use Rattle.frame.specs.declared.refusal.FrameRefusal.{FrameRefusal}
use Rattle.round.specs.Rounds.{Answer, Reading, Outcome, fresh, round_card, told, refusing, accepting, on_frame, on_take, reading_after}
use Rattle.round.specs.Rounds.Answer.{counted, passed_over, taken, closed}
use Rattle.round.specs.declared.refusal.TakeRefusal.{TakeRefusal}
use Rattle.round_laws.specs.Closings.{carried, Closings}
use Rattle.round_laws.specs.Exactly.{unbroken, open_round, so_far, Fits, Refused, Accepted, Closes, Due, ExactAnswer, ExactAnswers}
use Rattle.round_laws.specs.HalfRules.{Breaks}
use Rattle.round_laws.specs.Exactly.Refused.{repeats as repeating, foreign, in_first, in_second}
use Rattle.round_laws.proofs.Contents.{carried_even}
use Rattle.round_laws.proofs.OpenRounds.{carried_none}
use Rattle.round_laws.proofs.Follows.{Follows}
use Rattle.round_laws.proofs.Takes.{Tracked, Standing, standing, Met, met, follows_here}
use Rattle.round_laws.proofs.Takes.Met.{accepts, refuses}
use Rattle.round_laws.proofs.ExactRefusals.{tracked, nothing_yet, one_refusal}
use Rattle.round_laws.proofs.ClosedRounds.{round_whole, ends_with}

-- cards of one identifier and one sequence are the same
same_card : (c d : CardValue) → Lawful c → Lawful d → c.identifier ≡ d.identifier → sequence c ≡ sequence d → c ≡ d
same_card c d l m i e =
    let a = sequence_laws c l in
    let b = sequence_laws d m in
    let lat = sym a.latitude ∙ ap (λ (xs : List Content). field_from latitude_kind (words_under 1 1 xs)) e ∙ b.latitude in
    let lon = sym a.longitude ∙ ap (λ (xs : List Content). field_from longitude_kind (words_under 2 2 xs)) e ∙ b.longitude in
    let tel = sym a.telephone ∙ ap (λ (xs : List Content). field_from telephone_kind (words_under 3 5 xs)) e ∙ b.telephone in
    let msg = sym a.message ∙ ap (λ (xs : List Content). field_from message_kind (words_under 6 12 xs)) e ∙ b.message in
    λ j. record { identifier = i j; latitude = lat j; longitude = lon j; telephone = tel j; message = msg j }

-- no frames have carried a sequence
not_nothing : (fs : List Frame) (d : CardValue) → Lawful d → carried fs ≡ sequence d → fs ≡ [] → ⊥
unfolding carried
not_nothing fs d l e z = omega (arith, (sequence_laws d l).some, ap length (sym e ∙ ap carried z))

module _ (before : List Frame) (r : Reading) (k : Tracked before r) (f : Frame) where
  abbrev answered : Result Answer TakeRefusal
  answered = (on_frame r f).answer

  abbrev telling : Answer
  telling = told (round_card r.state) (eqb f.first.id 0)

  -- what is told of an accepted frame is due
  due : Fits before f → Accepted before f → Due before f telling
  unfolding told round_card carried
  due fits ok = by (standing f.identifier r.state (so_far before) follows) (cases_eq f.first.id 0)
    where
      follows : Follows f.identifier r.state (so_far before)
      follows = follows_here before r k f fits.belongs

      told_of : (o : Option CardValue) (b : Bool) → round_card r.state ≡ o → eqb f.first.id 0 ≡ b → Due before f (told o b)
          → Due before f telling
      told_of o b e h d = subst (Due before f) (ap (told o) (sym h)
          ∙ ap (λ (p : Option CardValue). told p (eqb f.first.id 0)) (sym e)) d

      by : Standing f.identifier r.state (so_far before) → (f.first.id ≡ 0) ⊎ (f.first.id ≡ 0 → ⊥) → Due before f telling
      by (inl p) (inl z) = told_of None true (ap round_card p.0) (eq-eqb f.first.id 0 z)
          (record { accepted = ok; round = inl (z, carried_none (open_round before) p.1) })
      by (inl p) (inr n) = told_of None false (ap round_card p.0) (ne_eqb f.first.id 0 n)
          (record { fits = fits; none = carried_none (open_round before) p.1; other = n })
      by (inr p) (inl z) =
          let breaks-none : (e : TakeRefusal) → Breaks 1 (so_far before) f.first e
          → ⊥ = λ e b. ok e (in_first (record { fits = fits; round = inr z }) b) in
          let w = round_whole r.state f.identifier (so_far before) f.first p.0 follows (carried_even (open_round before))
          p.1 z breaks-none in
          told_of (Some p.0) true p.1 (eq-eqb f.first.id 0 z)
          (record { accepted = ok; zero = z; lawful = w.lawful; carries = w.carries; identified = sym w.identified })
      by (inr p) (inr n) = told_of (Some p.0) false p.1 (ne_eqb f.first.id 0 n)
          (record { accepted = ok; round = inr (n, λ z. p.3 (ap carried z)) })

-- only one answer is due, and none to a refused frame
one_due : (before : List Frame) (f : Frame) (a b : Answer) → Due before f a → Due before f b → a ≡ b
one_due before f counted b p q = absurd p
one_due before f passed_over counted p q = absurd q
one_due before f passed_over passed_over p q = refl
one_due before f passed_over taken p q = absurd (elim q.round [ inl s ↦ p.other s.0 | inr s ↦ s.1 p.none ])
one_due before f passed_over (closed d) p q = absurd (p.other q.zero)
one_due before f taken counted p q = absurd q
one_due before f taken passed_over p q = absurd (elim p.round [ inl s ↦ q.other s.0 | inr s ↦ s.1 q.none ])
one_due before f taken taken p q = refl
one_due before f taken (closed d) p q = absurd
    (elim p.round [ inl s ↦ not_nothing (open_round before) d q.lawful q.carries s.1 | inr s ↦ s.0 q.zero ])
one_due before f (closed c) counted p q = absurd q
one_due before f (closed c) passed_over p q = absurd (q.other p.zero)
one_due before f (closed c) taken p q = absurd
    (elim q.round [ inl s ↦ not_nothing (open_round before) c p.lawful p.carries s.1 | inr s ↦ s.0 p.zero ])
one_due before f (closed c) (closed d) p q = ap closed
    (same_card c d p.lawful q.lawful (sym p.identified ∙ q.identified) (sym p.carries ∙ q.carries))

due_accepted : (before : List Frame) (f : Frame) (a : Answer) → Due before f a → Accepted before f
due_accepted before f counted p = absurd p
due_accepted before f taken p = p.accepted
due_accepted before f (closed d) p = p.accepted
due_accepted before f passed_over p = none
  where
    outside : (open_round before ≡ [] → ⊥) ⊎ (f.first.id ≡ 0) → ⊥
    outside (inl s) = s p.none
    outside (inr z) = p.other z

    none : Accepted before f
    none e (repeating q) = p.fits.alternates q
    none e (foreign q s) = s p.fits.belongs
    none e (in_first i b) = outside i.round
    none e (in_second i n b) = outside i.round

ok_same : (a b : Answer) → ◌≡◌ {A = Result Answer TakeRefusal} (Ok a) (Ok b) → a ≡ b
ok_same a b e = cc

err_same : (e g : TakeRefusal) → ◌≡◌ {A = Result Answer TakeRefusal} (Err e) (Err g) → e ≡ g
err_same e g h = cc

ok_no_err : (a : Answer) (e : TakeRefusal) → ◌≡◌ {A = Result Answer TakeRefusal} (Ok a) (Err e) → ⊥
ok_no_err a e h = let z : ◌≡◌ {A = ℕ} 0 1 = cc in omega arith

module _ (before : List Frame) (r : Reading) (k : Tracked before r) (f : Frame) where
  -- the answer to a frame
  abbrev Settled : Type 0
  Settled =
      ((answered before r k f ≡ Ok (telling before r k f)) × Fits before f × Accepted before f)
      ⊎ ((e : TakeRefusal) × (answered before r k f ≡ Err e) × Refused before f e)

  settled : Settled
  unfolding accepting refusing
  settled = by (met before r k f)
    where
      by : Met before r f → Settled
      by (accepts s e t fits ok) = inl (ap (λ (o : Outcome). o.answer) e, fits, ok)
      by (refuses e h p) = inr (e, ap (λ (o : Outcome). o.answer) h, p)

  refused_exactly : (e : TakeRefusal) → (answered before r k f ≡ Err e) ↔ Refused before f e
  refused_exactly e = (comes settled, called_for settled)
    where
      comes : Settled → answered before r k f ≡ Err e → Refused before f e
      comes (inl s) h = absurd (ok_no_err (telling before r k f) e (sym s.0 ∙ h))
      comes (inr s) h = subst (Refused before f) (err_same s.0 e (sym s.1 ∙ h)) s.2

      called_for : Settled → Refused before f e → answered before r k f ≡ Err e
      called_for (inl s) p = absurd (s.2 e p)
      called_for (inr s) p = s.1 ∙ ap Err (one_refusal before f s.0 e s.2 p)

  accepted_exactly : (a : Answer) → (answered before r k f ≡ Ok a) ↔ Due before f a
  accepted_exactly a = (comes settled, called_for settled)
    where
      comes : Settled → answered before r k f ≡ Ok a → Due before f a
      comes (inl s) h = subst (Due before f) (ok_same (telling before r k f) a (sym s.0 ∙ h)) (due before r k f s.1 s.2)
      comes (inr s) h = absurd (ok_no_err a s.0 (sym h ∙ s.1))

      called_for : Settled → Due before f a → answered before r k f ≡ Ok a
      called_for (inl s) p = s.0 ∙ ap Ok (one_due before f (telling before r k f) a (due before r k f s.1 s.2) p)
      called_for (inr s) p = absurd (due_accepted before f a p s.0 s.2)

  -- an accepted frame fits
  fits_if : (a : Answer) → answered before r k f ≡ Ok a → Fits before f
  fits_if a h = elim settled [ inl s ↦ s.1 | inr s ↦ absurd (ok_no_err a s.0 (sym h ∙ s.1)) ]

exact_answer : (ts : List (Result Frame FrameRefusal)) (f : Frame) → ExactAnswer ts f
unfolding on_take
exact_answer ts f =
    let k = tracked ts [] fresh nothing_yet in
    record {
      refused = refused_exactly (unbroken ts) (reading_after fresh ts) k f;
      accepted = accepted_exactly (unbroken ts) (reading_after fresh ts) k f;
    }

pub exact_answers : ExactAnswers
unfolding on_take refusing
exact_answers = record { frame = exact_answer; no_frame = λ ts e. refl }

pub closings : Closings
unfolding on_take refusing
closings ts (Err e) d h = let z : ◌≡◌ {A = ℕ} 0 1 = cc in absurd (omega arith)
closings ts (Ok f) d h =
    let k = tracked ts [] fresh nothing_yet in
    let fits = fits_if (unbroken ts) (reading_after fresh ts) k f (closed d) h in
    let p : Closes (unbroken ts) f d = (accepted_exactly (unbroken ts) (reading_after fresh ts) k f (closed d)).0 h in (
      ends_with ts f d p.lawful p.carries p.identified fits.belongs.same,
      record { frame = f; is = refl; zero = p.zero; identified = p.identified },
    )
