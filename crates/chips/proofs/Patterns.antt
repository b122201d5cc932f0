-- The chip pattern: its length, its chips, and its rule.
use Rattle.std.proofs.Common.{◌≡◌, ℕ, zero, suc, ◌+◌, ◌-◌, ◌<◌, true, List, [], ◌∷◌, length, get_or, drop, sym, refl, ap, ◌∙◌, ap₂, add-zero, suc-add, zero-add, arith, length-append, length-drop}
use Rattle.std.proofs.lemmas.List.{get_or_append_left, get_or-drop, get_or_push}
use Rattle.coding.specs.Bits.{are_bits, plus, bits}
use Rattle.coding.proofs.Words.{bits_join, bits_append, bits_drop, bit_at}
use Rattle.chips.specs.Chips.{start, shift, run, pattern}
use Rattle.chips.specs.Laws.{PatternRule}

-- ---- its length, and that its chips are bits
run_length : (n : ℕ) (w : List ℕ) → length (run n w) ≡ n
unfolding run
run_length zero w = refl
run_length (suc n) w = ap suc (run_length n (shift w))

pub pattern_length : length pattern ≡ 4096
unfolding pattern
pattern_length = run_length 4096 start

shift_bits : (w : List ℕ) → are_bits w ≡ true → are_bits (shift w) ≡ true
unfolding shift
shift_bits w h =
    let new : ℕ = plus (get_or w 0 0) (get_or w 1 0) in
    bits_append (drop 1 w) (new ∷ []) (bits_drop 1 w h) (bits_join new [] (omega arith) refl)

run_bits : (n : ℕ) (w : List ℕ) → are_bits w ≡ true → are_bits (run n w) ≡ true
unfolding run
run_bits zero w h = refl
run_bits (suc n) w h = bits_join (get_or w 0 0) (run n (shift w)) (bit_at w h 0) (run_bits n (shift w) (shift_bits w h))

pub pattern_bits : are_bits pattern ≡ true
unfolding pattern
pattern_bits = run_bits 4096 start (unfold start in refl)

-- ---- its rule
-- fifteen chips, n places on
shifts : ℕ → List ℕ → List ℕ
shifts zero w = w
shifts (suc n) w = shifts n (shift w)

shift_length : (w : List ℕ) → length w ≡ 15 → length (shift w) ≡ 15
unfolding shift
shift_length w l = length-append (drop 1 w) (plus (get_or w 0 0) (get_or w 1 0) ∷ []) ∙ omega (arith, length-drop 1 w)

shifts_length : (n : ℕ) (w : List ℕ) → length w ≡ 15 → length (shifts n w) ≡ 15
unfolding shifts
shifts_length zero w l = l
shifts_length (suc n) w l = shifts_length n (shift w) (shift_length w l)

shift_at : (w : List ℕ) (i : ℕ) → length w ≡ 15 → i < 14 → get_or (shift w) i 0 ≡ get_or w (i + 1) 0
unfolding shift
shift_at w i l h =
    get_or_append_left (drop 1 w) (plus (get_or w 0 0) (get_or w 1 0) ∷ []) 0 i (omega (arith, length-drop 1 w))
    ∙ get_or-drop 1 w i 0 ∙ ap (λ (j : ℕ). get_or w j 0) (omega arith)

shift_last : (w : List ℕ) → length w ≡ 15 → get_or (shift w) 14 0 ≡ plus (get_or w 0 0) (get_or w 1 0)
unfolding shift
shift_last w l = get_or_push (drop 1 w) (plus (get_or w 0 0) (get_or w 1 0)) 0 14 (length-drop 1 w ∙ ap (λ (n : ℕ). n - 1) l)

shifts_at : (j i : ℕ) (w : List ℕ) → length w ≡ 15 → i + j < 15 → get_or (shifts j w) i 0 ≡ get_or w (i + j) 0
unfolding shifts
shifts_at zero i w l h = ap (λ (k : ℕ). get_or w k 0) (sym (add-zero i))
shifts_at (suc j) i w l h =
    shifts_at j i (shift w) (shift_length w l) (omega arith)
    ∙ shift_at w (i + j) l (omega arith) ∙ ap (λ (k : ℕ). get_or w k 0) (omega arith)

shifts_plus : (a b : ℕ) (w : List ℕ) → shifts (a + b) w ≡ shifts b (shifts a w)
unfolding shifts
shifts_plus zero b w = ap (λ (n : ℕ). shifts n w) (zero-add b)
shifts_plus (suc a) b w = ap (λ (n : ℕ). shifts n w) (suc-add a b) ∙ shifts_plus a b (shift w)

run_at : (k n : ℕ) (w : List ℕ) → n < k → get_or (run k w) n 0 ≡ get_or (shifts n w) 0 0
unfolding run shifts
run_at zero n w h = absurd (omega arith)
run_at (suc k) zero w h = refl
run_at (suc k) (suc n) w h = run_at k n (shift w) (omega arith)

-- the chip i + j places on
run_from : (k n j : ℕ) (w : List ℕ) → n + j < k → get_or (run k w) (n + j) 0 ≡ get_or (shifts j (shifts n w)) 0 0
run_from k n j w h = run_at k (n + j) w h ∙ ap (λ (z : List ℕ). get_or z 0 0) (shifts_plus n j w)

fifteen_on : (v : List ℕ) → length v ≡ 15 → get_or (shifts 15 v) 0 0 ≡ plus (get_or v 0 0) (get_or v 1 0)
unfolding shifts
fifteen_on v l = shifts_at 14 0 (shift v) (shift_length v l) (omega arith) ∙ shift_last v l

run_next : (k n : ℕ) (w : List ℕ) → length w ≡ 15 → n + 15 < k
    → get_or (run k w) (n + 15) 0 ≡ plus (get_or (run k w) n 0) (get_or (run k w) (n + 1) 0)
run_next k n w l h =
    let v : List ℕ = shifts n w in
    let lv : length v ≡ 15 = shifts_length n w l in
    let here : get_or (run k w) n 0 ≡ get_or v 0 0 = run_at k n w (omega arith) in
    let there : get_or (run k w) (n + 1) 0 ≡ get_or v 1 0 = run_from k n 1 w (omega arith) ∙ shifts_at 1 0 v lv (omega arith) in
    run_from k n 15 w h ∙ fifteen_on v lv ∙ ap₂ plus (sym here) (sym there)

pub pattern_rule : PatternRule
pattern_rule = record {
  long = pattern_length;
  first = unfold pattern run shift start in refl;
  next = unfold pattern in (λ n h. run_next 4096 n start (unfold start in refl) h);
  begins = unfold pattern run shift start bits in refl;
}
