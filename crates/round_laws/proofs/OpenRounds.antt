-- The open round among accepted frames, one frame longer.
use Rattle.std.proofs.Common.{◌≡◌, ℕ, Bool, true, false, cond, eqb, List, [], ◌∷◌, ◌++◌, Some, sym, refl, ap, ◌∙◌, arith}
use Rattle.std.proofs.lemmas.List.{append-nil}
use Rattle.std.proofs.lemmas.Bool.{eq-eqb, ne_eqb, cond-true, cond-false}
use Rattle.content.specs.declared.entry.Content.{Content}
use Rattle.frame.specs.declared.carried.Frame.{Frame}
use Rattle.round_laws.specs.Closings.{carried}
use Rattle.round_laws.specs.Exactly.{or_else, open_round, last_unique, with_first}
use Rattle.round_laws.proofs.Contents.{carried_push}

pub unique_push : (fs : List Frame) (f : Frame) → last_unique (fs ++ (f ∷ [])) ≡ Some f.unique
unfolding last_unique
unique_push [] f = refl
unique_push (g ∷ []) f = refl
unique_push (g ∷ h ∷ fs) f = unique_push (h ∷ fs) f

-- frames with one more, where there are some
abbrev grown : List Frame → Frame → List Frame
grown [] f = []
grown (g ∷ gs) f = g ∷ (gs ++ (f ∷ []))

round_push : (fs : List Frame) (f : Frame) → open_round (fs ++ (f ∷ [])) ≡ cond (eqb f.first.id 0) (f ∷ []) (grown (open_round fs) f)
unfolding open_round or_else
round_push [] f = refl
round_push (g ∷ fs) f = ap (λ (r : List Frame). or_else r (cond (eqb g.first.id 0) (g ∷ (fs ++ (f ∷ []))) [])) (round_push fs f)
    ∙ go (eqb f.first.id 0) (eqb g.first.id 0) (open_round fs)
  where
    go : (b o : Bool) (r : List Frame) → or_else (cond b (f ∷ []) (grown r f)) (cond o (g ∷ (fs ++ (f ∷ []))) []) ≡ cond b (f ∷ [])
        (grown (or_else r (cond o (g ∷ fs) [])) f)
    go true o r = refl
    go false true [] = refl
    go false false [] = refl
    go false o (h ∷ hs) = refl

pub round_begins : (fs : List Frame) (f : Frame) → f.first.id ≡ 0 → open_round (fs ++ (f ∷ [])) ≡ f ∷ []
round_begins fs f z = round_push fs f ∙ cond-true (eqb f.first.id 0) (f ∷ []) (grown (open_round fs) f) (eq-eqb f.first.id 0 z)

pub round_goes_on : (fs : List Frame) (f : Frame) → (f.first.id ≡ 0 → ⊥) → (open_round fs ≡ [] → ⊥)
    → open_round (fs ++ (f ∷ [])) ≡ open_round fs ++ (f ∷ [])
round_goes_on fs f n s = round_push fs f ∙ cond-false (eqb f.first.id 0) (f ∷ []) (grown (open_round fs) f) (ne_eqb f.first.id 0 n)
    ∙ go (open_round fs) s
  where
    go : (r : List Frame) → (r ≡ [] → ⊥) → grown r f ≡ r ++ (f ∷ [])
    go [] s = absurd (s refl)
    go (g ∷ gs) s = refl

pub round_none : (fs : List Frame) (f : Frame) → (f.first.id ≡ 0 → ⊥) → open_round fs ≡ [] → open_round (fs ++ (f ∷ [])) ≡ []
round_none fs f n e =
    round_push fs f ∙ cond-false (eqb f.first.id 0) (f ∷ []) (grown (open_round fs) f) (ne_eqb f.first.id 0 n)
    ∙ ap (λ (r : List Frame). grown r f) e

-- what the round has carried, after a frame that goes on with it or begins it
pub carried_more : (fs : List Frame) (f : Frame) → (f.first.id ≡ 0 → ⊥) → (open_round fs ≡ [] → ⊥)
    → carried (open_round (fs ++ (f ∷ []))) ≡ with_first (carried (open_round fs)) f.first ++ (f.second ∷ [])
carried_more fs f n s =
    ap carried (round_goes_on fs f n s) ∙ carried_push (open_round fs) f
    ∙ ap (λ (xs : List Content). xs ++ (f.second ∷ []))
    (sym (cond-false (eqb f.first.id 0) (f.first ∷ []) (carried (open_round fs) ++ (f.first ∷ [])) (ne_eqb f.first.id 0 n)))

pub carried_anew : (fs : List Frame) (f : Frame) → f.first.id ≡ 0
    → carried (open_round (fs ++ (f ∷ []))) ≡ with_first (carried (open_round fs)) f.first ++ (f.second ∷ [])
unfolding carried
carried_anew fs f z =
    ap carried (round_begins fs f z)
    ∙ ap (λ (xs : List Content). xs ++ (f.second ∷ []))
    (sym (cond-true (eqb f.first.id 0) (f.first ∷ []) (carried (open_round fs) ++ (f.first ∷ [])) (eq-eqb f.first.id 0 z)))

-- nothing is carried only by no frames
pub carried_none : (fs : List Frame) → carried fs ≡ [] → fs ≡ []
unfolding carried
carried_none [] e = refl
carried_none (f ∷ fs) e = let z : ◌≡◌ {A = ℕ} 0 1 = cc in absurd (omega arith)

-- the open round is the end of the frames
pub round_ends : (fs : List Frame) → (passed : List Frame) × (fs ≡ passed ++ open_round fs)
unfolding open_round or_else
round_ends [] = ([], refl)
round_ends (f ∷ fs) = let p = round_ends fs in go p.0 (open_round fs) (eqb f.first.id 0) p.1
  where
    go : (passed r : List Frame) (b : Bool) → fs ≡ passed ++ r → (q : List Frame) × (f ∷ fs ≡ q ++ or_else r (cond b (f ∷ fs) []))
    go passed [] true e = ([], refl)
    go passed [] false e = (f ∷ fs, sym (append-nil (f ∷ fs)))
    go passed (h ∷ hs) b e = (f ∷ passed, ap (λ (l : List Frame). f ∷ l) e)
