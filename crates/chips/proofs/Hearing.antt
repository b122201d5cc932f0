-- What is heard of a block: the bit that was spread, unless half of its chips are flipped.
use Rattle.std.proofs.Common.{◌≡◌, ℕ, zero, suc, ◌+◌, ◌<◌, ◌≤◌, Bool, true, false, cond, eqb, ltb, List, [], ◌∷◌, map, length, refl, ap, ◌∙◌, arith}
use Rattle.std.specs.List.{AllByRecursion}
use Rattle.std.proofs.lemmas.Bool.{eq-eqb, lt-ltb, le-ltb, ltb-true, cond-true, cond-false, cond_both}
use Rattle.coding.specs.Bits.{are_bits, plus, group_bits}
use Rattle.coding.specs.Distance.{distance}
use Rattle.coding.proofs.Words.{bits_parts, bits_join}
use Rattle.coding.proofs.Groups.{length_group_bits, group_bits_bits}
use Rattle.coding.proofs.Distances.{distance_none, distance_cons}
use Rattle.chips.specs.Chips.{pattern, chips, block, unlike, despread, flipped, lost}
use Rattle.chips.specs.Laws.{IsBlock, KeptBit, HeardBits}
use Rattle.chips.proofs.Patterns.{pattern_length, pattern_bits}
use Rattle.chips.proofs.Blocks.{chips_zero, block_chips}

-- ---- by the number of unlike chips
heard_one : (x : List ℕ) → 2048 < unlike x → despread x ≡ 1
unfolding despread
heard_one x h = cond-true (ltb 2048 (unlike x)) 1 0 (lt-ltb 2048 (unlike x) h)

heard_zero : (x : List ℕ) → unlike x ≤ 2048 → despread x ≡ 0
unfolding despread
heard_zero x h = cond-false (ltb 2048 (unlike x)) 1 0 (le-ltb 2048 (unlike x) h)

heard_bit : (x : List ℕ) → despread x < 2
unfolding despread
heard_bit x = cond_both (ltb 2048 (unlike x)) 1 0 (λ b. b < 2) (λ e. omega arith) (λ e. omega arith)

-- ---- each chip is unlike the pattern's or unlike the turned one
opposite : (a p : ℕ) → a < 2 → p < 2 → cond (eqb a p) 0 1 + cond (eqb a (plus 1 p)) 0 1 ≡ 1
opposite zero zero h k = refl
opposite zero (suc zero) h k = refl
opposite (suc zero) zero h k = refl
opposite (suc zero) (suc zero) h k = refl
opposite (suc (suc a)) p h k = absurd (omega arith)
opposite zero (suc (suc p)) h k = absurd (omega arith)
opposite (suc zero) (suc (suc p)) h k = absurd (omega arith)

turned : (x w : List ℕ) → are_bits x ≡ true → are_bits w ≡ true → length x ≡ length w
    → distance x w + distance x (map (plus 1) w) ≡ length w
turned [] [] h k e = omega (arith, distance_none [])
turned [] (p ∷ w) h k e = absurd (omega arith)
turned (a ∷ x) [] h k e = absurd (omega arith)
turned (a ∷ x) (p ∷ w) h k e =
    let q = bits_parts a x h in
    let r = bits_parts p w k in
    omega (
      arith,
      opposite a p q.0 r.0,
      turned x w q.1 r.1 (omega arith),
      distance_cons a p x w,
      distance_cons a (plus 1 p) x (map (plus 1) w),
    )

unlike_turned : (x : List ℕ) → IsBlock x → unlike x + distance (group_bits 8 x) (chips 1) ≡ 4096
unfolding unlike chips
unlike_turned x k =
    turned (group_bits 8 x) pattern (group_bits_bits 8 x) pattern_bits (omega (arith, length_group_bits 8 x, k.long, pattern_length))
    ∙ pattern_length

-- ---- fewer than half
flipped_is : (b : ℕ) (x : List ℕ) → flipped (block b) x ≡ distance (group_bits 8 x) (chips b)
unfolding flipped
flipped_is b x = ap (distance (group_bits 8 x)) (block_chips b)

flipped_zero : (x : List ℕ) → flipped (block 0) x ≡ unlike x
unfolding unlike
flipped_zero x = flipped_is 0 x ∙ ap (distance (group_bits 8 x)) chips_zero

pub kept_bit : KeptBit
kept_bit zero h x k few = heard_zero x (omega (arith, flipped_zero x))
kept_bit (suc zero) h x k few = heard_one x (omega (arith, flipped_is 1 x, unlike_turned x k))
kept_bit (suc (suc b)) h x k few = absurd (omega arith)

-- ---- block after block
lost_cons : (w h : List ℕ) (written heard : List (List ℕ))
    → lost (w ∷ written) (h ∷ heard) ≡ cond (ltb (flipped w h) 2048) 0 1 + lost written heard
unfolding lost
lost_cons w h written heard = refl

-- a bit that is heard wrong is lost
wrong_is_lost : (t : Bool) (b : ℕ) (x : List ℕ) → b < 2 → IsBlock x → ltb (flipped (block b) x) 2048 ≡ t
    → cond (eqb (despread x) b) 0 1 ≤ cond t 0 1
wrong_is_lost true b x h k e =
    let same : despread x ≡ b = kept_bit b h x k (ltb-true (flipped (block b) x) 2048 e) in
    let none : ◌≡◌ {A = ℕ} (cond (eqb (despread x) b) 0 1) 0 = cond-true (eqb (despread x) b) 0 1 (eq-eqb (despread x) b same) in
    omega arith
wrong_is_lost false b x h k e = cond_both (eqb (despread x) b) 0 1 (λ n. n ≤ 1) (λ e. omega arith) (λ e. omega arith)

near : (sent : List ℕ) (heard : List (List ℕ)) → are_bits sent ≡ true → AllByRecursion IsBlock heard → length heard ≡ length sent
    → distance (map despread heard) sent ≤ lost (map block sent) heard
near [] [] h k e = omega (arith, distance_none [])
near [] (x ∷ heard) h k e = absurd (omega arith)
near (b ∷ sent) [] h k e = absurd (omega arith)
near (b ∷ sent) (x ∷ heard) h k e =
    let p = bits_parts b sent h in
    omega (
      arith,
      distance_cons (despread x) b (map despread heard) sent,
      lost_cons (block b) x (map block sent) heard,
      wrong_is_lost (ltb (flipped (block b) x) 2048) b x p.0 k.0 refl,
      near sent heard p.1 k.1 (omega arith),
    )

line_bits_lem : (heard : List (List ℕ)) → are_bits (map despread heard) ≡ true
line_bits_lem [] = refl
line_bits_lem (x ∷ heard) = bits_join (despread x) (map despread heard) (heard_bit x) (line_bits_lem heard)

pub heard_bits_lem : HeardBits
heard_bits_lem sent h heard k e = record { near = near sent heard h k e; are_line_bits = line_bits_lem heard }
