-- A number is read group by group, from the front.
use Rattle.std.proofs.Common.{◌≡◌, ℕ, zero, suc, ◌+◌, ◌*◌, ◌%◌, ◌<◌, ◌≤◌, Bool, true, false, cond, not, ◌&&◌, ◌||◌, eqb, leb, ltb, List, [], ◌∷◌, length, get_or, Some, None, Option, sym, refl, ap, ◌∙◌, arith}
use Rattle.std.specs.Option.{option_map, option_and_then}
use Rattle.reel.specs.declared.number.Number.{Number}
use Rattle.reel.specs.Reading.{above, shortest_at_front}
use Rattle.reel.specs.Numbers.{groups_at_front, value_of, last_group, is_shortest, number_of_groups, number_at_front}

abbrev pub numbered : List ℕ → Number
numbered gs = record { value = value_of gs; len = length gs }

abbrev limited : ℕ → Option (List ℕ) → Option Number
limited n None = None
limited n (Some gs) = cond (leb (length gs) n && is_shortest gs) (Some (numbered gs)) None

zero_last : (gs : List ℕ) → value_of gs ≡ 0 → last_group gs ≡ 0
unfolding value_of last_group
zero_last [] e = refl
zero_last (g ∷ []) e = omega (arith, e)
zero_last (g ∷ h ∷ gs) e = zero_last (h ∷ gs) (omega (arith, e))

not_empty : (os : List ℕ) → groups_at_front os ≡ Some [] → ⊥
unfolding groups_at_front
not_empty [] e = grind (arith, e)
not_empty (o ∷ os) e = grind (arith, e)

step_more : (n o m v l : ℕ) → 1 < m → (v ≡ 0 → l ≡ 0) → 128 ≤ o → o < 256
    → option_and_then (above o) (cond (leb m n && (leb m 1 || not (eqb l 0))) (Some (record { value = v; len = m })) None)
    ≡ cond (leb (suc m) (suc n) && (leb (suc m) 1 || not (eqb l 0))) (Some (record { value = o % 128 + 128 * v; len = suc m })) None
step_more n o m v l a e h k = grind (arith, a, e, h, k)

-- a group before others
step : (n o : ℕ) (gs : List ℕ) → (gs ≡ [] → ⊥) → 128 ≤ o → o < 256
    → option_and_then (above o) (limited n (Some gs)) ≡ limited (suc n) (Some (o ∷ gs))
unfolding value_of last_group
step n o [] e h l = absurd (e refl)
step n o (g ∷ []) e h l = grind (arith, h, l)
step n o (g ∷ k ∷ gs) e h l = step_more n o (length (g ∷ k ∷ gs)) (value_of (g ∷ k ∷ gs)) (last_group (g ∷ k ∷ gs)) (omega arith) (zero_last (g ∷ k ∷ gs)) h l

step_at : (n o : ℕ) (r : Option (List ℕ)) → (r ≡ Some [] → ⊥) → 128 ≤ o → o < 256
    → option_and_then (above o) (limited n r) ≡ limited (suc n) (option_map (λ gs. o ∷ gs) r)
step_at n o None e h l = refl
step_at n o (Some gs) e h l = step n o gs (λ q. e (ap Some q)) h l

none_in_none : (b : Bool) (o : ℕ) (r : Option (List ℕ)) → None ≡ limited 0 (cond b (Some (o ∷ [])) (option_map (λ gs. o ∷ gs) r))
none_in_none true o r = refl
none_in_none false o None = refl
none_in_none false o (Some gs) = grind arith

read_is : (n : ℕ) (os : List ℕ) → ((i : ℕ) → get_or os i 0 < 256) → shortest_at_front n os ≡ limited n (groups_at_front os)
unfolding shortest_at_front groups_at_front value_of
read_is zero [] h = refl
read_is zero (o ∷ os) h = none_in_none (ltb o 128) o (groups_at_front os)
read_is (suc n) [] h = refl
read_is (suc n) (o ∷ os) h = grind (arith, read_is n os (λ i. h (suc i)), step_at n o (groups_at_front os) (not_empty os), h 0)

big : (gs : List ℕ) → 3 < length gs → is_shortest gs ≡ true → 2097152 ≤ value_of gs
unfolding value_of last_group
big [] l e = absurd (omega (arith, l))
big (a ∷ []) l e = absurd (omega (arith, l))
big (a ∷ b ∷ []) l e = absurd (omega (arith, l))
big (a ∷ b ∷ c ∷ []) l e = absurd (omega (arith, l))
big (a ∷ b ∷ c ∷ d ∷ gs) l e = grind (arith, zero_last (d ∷ gs), e)

in_three : (most : ℕ) (r : Option (List ℕ)) → most < 2097152
    → option_and_then (number_of_groups most) r ≡ option_and_then (λ n. cond (leb n.value most) (Some n) None) (limited 3 r)
in_three most None l = refl
in_three most (Some gs) l = grind (arith, big gs, l)

-- three groups say every number up to a limit
pub read_in_three : (most : ℕ) (os : List ℕ) → most < 2097152 → ((i : ℕ) → get_or os i 0 < 256)
    → number_at_front most os ≡ option_and_then (λ n. cond (leb n.value most) (Some n) None) (shortest_at_front 3 os)
read_in_three most os l h = in_three most (groups_at_front os) l ∙ ap (option_and_then (λ n. cond (leb n.value most) (Some n) None)) (sym (read_is 3 os h))
