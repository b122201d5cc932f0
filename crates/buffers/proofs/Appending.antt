-- What a buffer holds after several texts are appended.
use Rattle.std.proofs.Common.{◌≡◌, ℕ, zero, suc, ◌≤◌, List, [], ◌∷◌, ◌++◌, length, take, sym, refl, ap, ◌∙◌, append_assoc}
use Rattle.std.proofs.lemmas.List.{take_all, append-nil}
use Rattle.buffers.specs.Buffer.{appended}

take_append_take : (n : ℕ) (xs ys : List ℕ) → take n (take n xs ++ ys) ≡ take n (xs ++ ys)
take_append_take zero xs ys = refl
take_append_take (suc n) [] ys = refl
take_append_take (suc n) (x ∷ xs) ys = ap (λ (l : List ℕ). x ∷ l) (take_append_take n xs ys)

-- one text after another
pub appended_appended : (n : ℕ) (held a b : List ℕ) → appended n (appended n held a) b ≡ appended n held (a ++ b)
unfolding appended
appended_appended n held a b = take_append_take n (held ++ a) b ∙ ap (take n) (append_assoc held a b)

-- nothing appended to what another text was appended to
pub nothing_appended : (n : ℕ) (held after a : List ℕ) → after ≡ appended n held a → after ≡ appended n after []
nothing_appended n held after a e =
    e ∙ sym (ap (λ (l : List ℕ). appended n l []) e ∙ appended_appended n held a [] ∙ ap (appended n held) (append-nil a))

-- the whole text, where there is room
pub appended_whole : (n : ℕ) (held a : List ℕ) → length (held ++ a) ≤ n → appended n held a ≡ held ++ a
unfolding appended
appended_whole n held a fits = take_all n (held ++ a) fits
