-- The scrambling sequence keeps its recurrence, and scrambling keeps the rules of a line.
use Rattle.std.proofs.Common.{◌≡◌, ℕ, zero, suc, ◌+◌, ◌-◌, ◌<◌, ◌≤◌, min, true, ltb, List, [], ◌∷◌, ◌++◌, map, length, get_or, take, drop, sym, refl, ap, ◌∙◌, ap₂, ⊎_elim, suc-add, arith, lit<, length-append, length-drop}
use Rattle.std.specs.List.{range_with_len}
use Rattle.std.proofs.lemmas.List.{length-take-le, get_or_append_left, get_or-append_right, get_or-take, get_or-drop}
use Rattle.std.proofs.lemmas.List.FromFn.{fill_by_all, get_or-map-range_with_len, map-range_with_len_more}
use Rattle.std.proofs.lemmas.Bool.{leb-true, cond_both, lt-ltb, le-ltb, cases_lt}
use Rattle.std.proofs.lemmas.Bool.Decides.{nat_tests}
use Rattle.coding.specs.Bits.{are_bits, plus, bits}
use Rattle.coding.specs.Distance.{distance}
use Rattle.line.specs.Line.{LineRules}
use Rattle.line.specs.Stages.{listed, shifted, sequence, mask, scrambled, scrambling}
use Rattle.line.specs.Laws.{ScramblingSequence}
use Rattle.line.proofs.Sums.{apart, total, total_le, distance_total, bit_at, bits_listed, length_listed, get_d_listed, plus_bit}

shifted_bit : (n a b c d e f g h i : ℕ) → a < 2 → b < 2 → c < 2 → d < 2 → e < 2 → f < 2 → g < 2 → h < 2 → i < 2 →
    shifted n a b c d e f g h i < 2
unfolding shifted
shifted_bit zero a b c d e f g h i ka kb kc kd ke kf kg kh ki = ka
shifted_bit (suc n) a b c d e f g h i ka kb kc kd ke kf kg kh ki =
    shifted_bit n b c d e f g h i (plus a e) kb kc kd ke kf kg kh ki (plus_bit a e)

pub sequence_bit : (n : ℕ) → sequence n < 2
sequence_bit n = shifted_bit n 0 0 1 0 0 0 0 0 1 (lit< tt) (lit< tt) (lit< tt) (lit< tt) (lit< tt) (lit< tt) (lit< tt) (lit< tt) (lit< tt)

shifted_nine : (n a b c d e f g h i : ℕ) →
    shifted (n + 9) a b c d e f g h i ≡ plus (shifted n a b c d e f g h i) (shifted (n + 4) a b c d e f g h i)
unfolding shifted
shifted_nine zero a b c d e f g h i = refl
shifted_nine (suc n) a b c d e f g h i = rw (suc-add n 9, suc-add n 4) (shifted_nine n b c d e f g h i (plus a e))

-- each bit is the sum of the one nine before and the one five before
pub sequence_nine : (n : ℕ) → sequence (n + 9) ≡ plus (sequence n) (sequence (n + 4))
sequence_nine n = shifted_nine n 0 0 1 0 0 0 0 0 1

pub scrambling_sequence : ScramblingSequence
unfolding shifted bits
scrambling_sequence = record { start = refl; step = sequence_nine; begins = refl }

mask_bit : (i : ℕ) → mask i < 2
mask_bit i = cond_both (ltb i 22) 0 (sequence (i - 22 + 9)) (λ x. x < 2) (λ _. lit< tt) (λ _. sequence_bit (i - 22 + 9))

move : (x w m : ℕ) → x < 2 → w < 2 → m < 2 → apart (plus x m) w ≤ apart x (plus w m)
move x w m hx hw hm = grind (arith, nat_tests)

scrambled_length : (w : List ℕ) → length (scrambled w) ≡ length w
scrambled_length w = length_listed (λ j. plus (get_or w j 0) (mask j)) (length w)

scrambled_bits : (w : List ℕ) → are_bits (scrambled w) ≡ true
scrambled_bits w = bits_listed (λ j. plus (get_or w j 0) (mask j)) (length w) (λ i _. plus_bit (get_or w i 0) (mask i))

module _ (w x : List ℕ) (hw : are_bits w ≡ true) (hx : are_bits x ≡ true) (l : length x ≡ length w) where
  place : (i : ℕ) → i < length w → apart (get_or (scrambled x) i 0) (get_or w i 0) ≤ apart (get_or x i 0) (get_or (scrambled w) i 0)
  place i k =
      let a = get_d_listed (λ j. plus (get_or x j 0) (mask j)) (length x) i (omega arith) in
      let b = get_d_listed (λ j. plus (get_or w j 0) (mask j)) (length w) i k in
      rw (a, b) (move (get_or x i 0) (get_or w i 0) (mask i) (bit_at x hx i) (bit_at w hw i) (mask_bit i))

  near : distance (scrambled x) w ≤ distance x (scrambled w)
  near =
      let e : ℕ → ℕ = λ i. apart (get_or x i 0) (get_or (scrambled w) i 0) in
      let line : distance x (scrambled w) ≡ total e (length w) =
      distance_total x (scrambled w) (l ∙ sym (scrambled_length w)) ∙ ap (total e) (scrambled_length w) in
      let word = distance_total (scrambled x) w (scrambled_length x ∙ l) in
      let places = total_le _ _ (length w) place in
      omega arith

pub scrambling_rules : LineRules scrambling
scrambling_rules = record {
  longer = λ a b _ _ h. h;
  short = λ n h. let k = leb-true n 4096 h in (k, k);
  encodes = λ n w last _ word _. (scrambled_length w ∙ word.0, scrambled_bits w);
  decodes = λ n x _ line. (scrambled_length x ∙ line.0, scrambled_bits x);
  none = refl;
  rising = λ j k h. h;
  near = λ n w last x _ word _ line. near w x word.1 line.1 (line.0 ∙ sym word.0);
}

-- the register holds nine neighbours of the sequence
abbrev pub window : ℕ → List ℕ
window m = map sequence (range_with_len m 9)

pub window_start : 0 ∷ 0 ∷ 1 ∷ 0 ∷ 0 ∷ 0 ∷ 0 ∷ 0 ∷ 1 ∷ [] ≡ window 0
unfolding shifted
window_start = refl

-- the sum of the oldest and the fifth is the next of the sequence
pub window_next : (m : ℕ) (s : List ℕ) → s ≡ window m → plus (get_or s 0 0) (get_or s 4 0) ≡ sequence (m + 9)
window_next m s e =
    let fifth = get_or-map-range_with_len sequence m 9 4 (m + 4) 0 (lit< tt) refl in
    rw e (rw fifth (sym (sequence_nine m)))

-- the oldest goes, and the next comes in
pub window_step : (m v : ℕ) (s : List ℕ) → s ≡ window m → v ≡ sequence (m + 9) → drop 1 s ++ (v ∷ []) ≡ window (m + 1)
window_step m v s e next = rw (e, next) (sym (map-range_with_len_more sequence (m + 1) 8 (m + 9) (omega arith)))

pub mask_low : (i : ℕ) → i < 22 → mask i ≡ 0
mask_low i h = rw (lt-ltb i 22 h)

pub mask_high : (i : ℕ) → 22 ≤ i → mask i ≡ sequence (i - 22 + 9)
mask_high i h = rw (le-ltb i 22 h)

-- the first bits as they are, and the sequence added to those after
pub parts_scrambled : (w z : List ℕ) (n : ℕ) → are_bits w ≡ true → n ≡ min (length w) 22 →
    z ≡ listed (λ i. plus (get_or (drop n w) i 0) (sequence (i + 9))) (length (drop n w)) → take n w ++ z ≡ scrambled w
parts_scrambled w z n hw e is = fill_by_all f (take n w ++ z) (length w) 0 long place
  where
    f : ℕ → ℕ
    f i = plus (get_or w i 0) (mask i)

    g : ℕ → ℕ
    g i = plus (get_or (drop n w) i 0) (sequence (i + 9))

    front : length (take n w) ≡ n
    front = length-take-le n w (omega arith)

    back : length z ≡ length w - n
    back = ap length is ∙ length_listed g (length (drop n w)) ∙ length-drop n w

    long : length (take n w ++ z) ≡ length w
    long = omega (arith, length-append (take n w) z, front, back)

    place : (k : ℕ) → k < length w → get_or (take n w ++ z) k 0 ≡ f k
    place k h = ⊎_elim first after (cases_lt k n)
      where
        first : k < n → get_or (take n w ++ z) k 0 ≡ f k
        first l =
            let low : k < 22 = omega arith in
            get_or_append_left (take n w) z 0 k (omega (arith, front))
            ∙ get_or-take n w k 0 l
            ∙ omega (arith, mask_low k low, bit_at w hw k)

        after : n ≤ k → get_or (take n w ++ z) k 0 ≡ f k
        after l =
            let high : 22 ≤ k = omega arith in
            let same : k - n + 9 ≡ k - 22 + 9 = omega arith in
            let at : n + (k - n) ≡ k = omega arith in
            get_or-append_right (take n w) z n k 0 front l
            ∙ ap (λ (y : List ℕ). get_or y (k - n) 0) is
            ∙ get_d_listed g (length (drop n w)) (k - n) (omega (arith, length-drop n w))
            ∙ ap₂ plus (get_or-drop n w (k - n) 0 ∙ ap (λ (i : ℕ). get_or w i 0) at) (ap sequence same ∙ sym (mask_high k high))
