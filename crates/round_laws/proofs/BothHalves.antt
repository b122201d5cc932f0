-- Both halves of a frame: in order, or which of them breaks a rule.
use Rattle.std.proofs.Common.{◌≡◌, ℕ, ◌<◌, Bool, true, false, cond, eqb, ◌⊎◌, List, [], ◌∷◌, ◌++◌, length, Ok, Err, Result, sym, refl, ap, ◌∙◌, subst, inl, inr, arith}
use Rattle.std.proofs.lemmas.List.{length_push}
use Rattle.std.proofs.lemmas.Bool.{eq-eqb, ne_eqb, cond-true, cond-false, cases_eq}
use Rattle.card.specs.Fields.{keeps_first_octet}
use Rattle.card.specs.Card.{blank}
use Rattle.content.specs.Laws.{words_under}
use Rattle.content.specs.Sequence.{marker}
use Rattle.content.specs.declared.entry.Content.{Content}
use Rattle.frame.specs.declared.carried.Frame.{Frame}
use Rattle.round.specs.Rounds.{State, marked, advanced, opening, first_half, second_half, halves}
use Rattle.round.specs.Rounds.State.{waiting, opened, unfinished, closing}
use Rattle.round.specs.declared.refusal.TakeRefusal.{TakeRefusal}
use Rattle.round_laws.specs.Exactly.{with_first}
use Rattle.round_laws.specs.HalfRules.{last_id, Unfinished, Breaks}
use Rattle.round_laws.proofs.Contents.{last_push, under_skip}
use Rattle.round_laws.proofs.Follows.{Follows, Verdict}
use Rattle.round_laws.proofs.Verdicts.{zero_half, broken_off, unfinished_after, verdict}

-- a blank card follows from the 0 that begins its round
blank_follows : (d : List ℕ) → keeps_first_octet d ≡ true → Follows d (opened (blank d) 0) (marker ∷ [])
unfolding last_id words_under
blank_follows d h = (
  record { identifier = h; latitude = refl; longitude = refl; telephone = refl; message = refl },
  refl,
  record {
    carries = refl;
    above = record { latitude = λ q. refl; longitude = λ q. refl; telephone = λ q. refl; message = λ q. refl };
    last_is = refl;
    whole = λ u. elim u [ inl p ↦ omega arith | inr p ↦ omega arith ];
    alone = λ q z. omega arith;
    none_above = λ low high q. under_skip low high [] marker q;
  },
)

-- half 1 is in order and leads on, or breaks a rule
abbrev First : List ℕ → List Content → Content → Result State TakeRefusal → Type 0
First d xs x r =
    ((t : State) × (r ≡ Ok t) × Follows d t (with_first xs x) × ((e : TakeRefusal) → Breaks 1 xs x e → ⊥))
    ⊎ ((e : TakeRefusal) × (r ≡ Err e) × Breaks 1 xs x e)

-- ID 0 in half 1
module _ (d : List ℕ) (xs : List Content) (x : Content) (h : keeps_first_octet d ≡ true) (z : x.id ≡ 0) where
  first_alone : with_first xs x ≡ x ∷ []
  first_alone = cond-true (eqb x.id 0) (x ∷ []) (xs ++ (x ∷ [])) (eq-eqb x.id 0 z)

  begun : (Unfinished (last_id xs) → ⊥) → First d xs x (marked 1 x.word (opened (blank d) 0))
  begun nu = elim (zero_half 1 xs x (opened (blank d) 0) z nu) [
    | inl v ↦ inl (
      opened (blank d) 0,
      v.1,
      subst (Follows d (opened (blank d) 0))
          (ap (λ (y : Content). y ∷ []) (sym v.0) ∙ sym first_alone) (blank_follows d h),
      v.2,
    )
    | inr v ↦ inr v
  ]

  opens : (s : State) → Follows d s xs → First d xs x (opening d s x)
  unfolding opening last_id
  opens waiting f = begun (λ u. none (subst (λ (l : List Content). Unfinished (last_id l)) f u))
    where
      none : Unfinished (last_id []) → ⊥
      none (inl p) = omega arith
      none (inr p) = omega arith
  opens (opened c last) f = begun (λ u. f.2.whole (subst Unfinished f.2.last_is u))
  opens (unfinished c last ws) f = inr (broken_off 1 xs x z (unfinished_after {c = c} {last = last} {ws = ws} f))
  opens (closing c) f = begun (λ u. elim u [ inl p ↦ omega (arith, f.2.last_is) | inr p ↦ omega (arith, f.2.last_is) ])

first_verdict : (d : List ℕ) (s : State) (xs : List Content) (x : Content) → keeps_first_octet d ≡ true → Follows d s xs
    → (xs ≡ [] → ⊥) ⊎ (x.id ≡ 0) → First d xs x (first_half d s x)
unfolding first_half
first_verdict d s xs x h f o = by_id (cases_eq x.id 0)
  where
    at_first : (r : Result State TakeRefusal) → first_half d s x ≡ r → First d xs x r → First d xs x (first_half d s x)
    at_first r e v = subst (λ (t : Result State TakeRefusal). First d xs x t) (sym e) v

    going : (x.id ≡ 0 → ⊥) → Verdict d 1 xs x (advanced 1 s x) → First d xs x (advanced 1 s x)
    going n (inl v) = inl (
      v.0,
      v.1,
      subst (Follows d v.0)
          (sym (cond-false (eqb x.id 0) (x ∷ []) (xs ++ (x ∷ [])) (ne_eqb x.id 0 n))) v.2,
      v.3,
    )
    going n (inr v) = inr v

    some : (x.id ≡ 0 → ⊥) → (xs ≡ [] → ⊥) ⊎ (x.id ≡ 0) → xs ≡ [] → ⊥
    some n (inl p) = p
    some n (inr z) = absurd (n z)

    by_id : (x.id ≡ 0) ⊎ (x.id ≡ 0 → ⊥) → First d xs x (first_half d s x)
    by_id (inl z) = at_first (opening d s x) (cond-true (eqb x.id 0) (opening d s x) (advanced 1 s x) (eq-eqb x.id 0 z))
        (opens d xs x h z s f)
    by_id (inr n) =
        at_first (advanced 1 s x) (cond-false (eqb x.id 0) (opening d s x) (advanced 1 s x) (ne_eqb x.id 0 n))
        (going n (verdict d 1 s xs x f (some n o) (λ z. absurd (n z))))

-- both halves are in order, half 1 breaks a rule, or half 2 does
pub data Judgement (d : List ℕ) (xs : List Content) (f : Frame) (r : Result State TakeRefusal) : Type 0 where
  orderly : (u : State) → r ≡ Ok u → Follows d u (with_first xs f.first ++ (f.second ∷ []))
      → ((e : TakeRefusal) → Breaks 1 xs f.first e → ⊥)
      → ((e : TakeRefusal) → Breaks 2 (with_first xs f.first) f.second e → ⊥) → Judgement d xs f r
  first : (e : TakeRefusal) → r ≡ Err e → Breaks 1 xs f.first e → Judgement d xs f r
  second : (e : TakeRefusal) → r ≡ Err e → ((e : TakeRefusal) → Breaks 1 xs f.first e → ⊥)
      → Breaks 2 (with_first xs f.first) f.second e → Judgement d xs f r

-- the list up to half 1 is not empty, and with half 1 no closing 0 has come
with_some : (xs : List Content) (x : Content) → with_first xs x ≡ [] → ⊥
with_some xs x e = go (eqb x.id 0) e
  where
    go : (b : Bool) → cond b (x ∷ []) (xs ++ (x ∷ [])) ≡ [] → ⊥
    go true e = omega (arith, ap length e)
    go false e = omega (arith, ap length e, length_push xs x)

with_open : (xs : List Content) (x : Content) → 1 < length (with_first xs x) → last_id (with_first xs x) ≡ 0 → ⊥
with_open xs x m l = by_id (cases_eq x.id 0)
  where
    by_id : (x.id ≡ 0) ⊎ (x.id ≡ 0 → ⊥) → ⊥
    by_id (inl z) = omega (arith, ap length (cond-true (eqb x.id 0) (x ∷ []) (xs ++ (x ∷ [])) (eq-eqb x.id 0 z)))
    by_id (inr n) = n (sym (last_push xs x) ∙ sym (ap last_id (cond-false (eqb x.id 0) (x ∷ []) (xs ++ (x ∷ [])) (ne_eqb x.id 0 n)))
        ∙ l)

pub judgement : (s : State) (xs : List Content) (f : Frame) → keeps_first_octet f.identifier ≡ true → Follows f.identifier s xs
    → (xs ≡ [] → ⊥) ⊎ (f.first.id ≡ 0)
    → Judgement f.identifier xs f (halves s f)
unfolding halves second_half
judgement s xs f h g o = by_first (first_verdict d s xs x h g o)
  where
    d : List ℕ
    d = f.identifier

    x : Content
    x = f.first

    y : Content
    y = f.second

    then : (t : State) → first_half d s x ≡ Ok t → ((e : TakeRefusal) → Breaks 1 xs x e → ⊥)
        → Verdict d 2 (with_first xs x) y (advanced 2 t y) → Judgement d xs f (second_half y (first_half d s x))
    then t e n (inl v) = orderly v.0 (ap (second_half y) e ∙ v.1) v.2 n v.3
    then t e n (inr v) = second v.0 (ap (second_half y) e ∙ v.1) n v.2

    by_first : First d xs x (first_half d s x) → Judgement d xs f (second_half y (first_half d s x))
    by_first (inl v) = then v.0 v.1 v.3 (verdict d 2 v.0 (with_first xs x) y v.2 (with_some xs x) (λ z. with_open xs x))
    by_first (inr v) = first v.0 (ap (second_half y) v.1) v.2
