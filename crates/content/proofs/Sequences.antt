-- Words under ascending IDs.
use Rattle.std.proofs.Common.{◌≡◌, ℕ, suc, ◌+◌, ◌<◌, List, [], ◌∷◌, ◌++◌, length, get_or, take, sym, refl, ap, ◌∙◌, add-zero, add-suc, suc-add, arith}
use Rattle.std.proofs.lemmas.List.{take_more, length-take-le}
use Rattle.content.specs.Sequence.{numbered}
use Rattle.content.specs.declared.entry.Content.{Content}

pub numbered_push : (id : ℕ) (ws : List ℕ) (w : ℕ) → numbered id (ws ++ (w ∷ [])) ≡ numbered id ws ++ (record { id = id + length ws; word = w } ∷ [])
unfolding numbered
numbered_push id [] w = ap (λ (n : ℕ). record { id = n; word = w } ∷ []) (sym (add-zero id))
numbered_push id (v ∷ ws) w =
    ap (λ (r : List Content). record { id = id; word = v } ∷ r)
    (numbered_push (suc id) ws w ∙ ap (λ (n : ℕ). numbered (suc id) ws ++ (record { id = n; word = w } ∷ [])) (suc-add id (length ws) ∙ sym (add-suc id (length ws))))

pub numbered_more : (id : ℕ) (ws : List ℕ) (i : ℕ) → i < length ws → numbered id (take i ws) ++ (record { id = id + i; word = get_or ws i 0 } ∷ []) ≡ numbered id (take (i + 1) ws)
numbered_more id ws i h =
    sym (ap (numbered id) (take_more ws i 0 h) ∙ numbered_push id (take i ws) (get_or ws i 0)
    ∙ ap (λ (n : ℕ). numbered id (take i ws) ++ (record { id = id + n; word = get_or ws i 0 } ∷ [])) (length-take-le i ws (omega arith)))

pub numbered_none : (id : ℕ) → numbered id [] ≡ []
unfolding numbered
numbered_none id = refl
