-- Lists of contents, one half longer.
use Rattle.std.proofs.Common.{◌≡◌, ℕ, ◌%◌, ◌<◌, ◌≤◌, leb, List, [], ◌∷◌, ◌++◌, length, refl, ap, ◌∙◌, arith}
use Rattle.std.proofs.lemmas.List.{append-nil}
use Rattle.std.proofs.lemmas.Bool.{and_from, and_left, le-leb, lt-leb, cond-true, cond-false}
use Rattle.content.specs.Laws.{words_under}
use Rattle.content.specs.declared.entry.Content.{Content}
use Rattle.content.proofs.ReadBack.{under_append}
use Rattle.frame.specs.declared.carried.Frame.{Frame}
use Rattle.round_laws.specs.Closings.{carried}
use Rattle.round_laws.specs.HalfRules.{last_id}

pub last_push : (xs : List Content) (x : Content) → last_id (xs ++ (x ∷ [])) ≡ x.id
unfolding last_id
last_push [] x = refl
last_push (y ∷ []) x = refl
last_push (y ∷ z ∷ xs) x = last_push (z ∷ xs) x

-- a word under an ID within the bounds
pub under_push : (low high : ℕ) (xs : List Content) (x : Content) → low ≤ x.id → x.id ≤ high
    → words_under low high (xs ++ (x ∷ [])) ≡ words_under low high xs ++ (x.word ∷ [])
unfolding words_under
under_push low high xs x l h =
    under_append low high xs (x ∷ [])
    ∙ ap (λ (r : List ℕ). words_under low high xs ++ r)
    (cond-true _ (x.word ∷ []) [] (and_from (leb low x.id) (leb x.id high) (le-leb low x.id l) (le-leb x.id high h)))

-- and under one below them
pub under_skip : (low high : ℕ) (xs : List Content) (x : Content) → x.id < low
    → words_under low high (xs ++ (x ∷ [])) ≡ words_under low high xs
unfolding words_under
under_skip low high xs x l =
    under_append low high xs (x ∷ [])
    ∙ ap (λ (r : List ℕ). words_under low high xs ++ r)
    (cond-false _ (x.word ∷ []) [] (and_left (leb low x.id) (leb x.id high) (lt-leb low x.id l)))
    ∙ append-nil (words_under low high xs)

pub carried_push : (fs : List Frame) (f : Frame) → carried (fs ++ (f ∷ [])) ≡ (carried fs ++ (f.first ∷ [])) ++ (f.second ∷ [])
unfolding carried
carried_push [] f = refl
carried_push (g ∷ fs) f = ap (λ (l : List Content). g.first ∷ g.second ∷ l) (carried_push fs f)

pub carried_even : (fs : List Frame) → length (carried fs) % 2 ≡ 0
unfolding carried
carried_even [] = refl
carried_even (f ∷ fs) = omega (arith, carried_even fs)
