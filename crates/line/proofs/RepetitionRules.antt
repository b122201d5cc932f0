-- Repetition keeps the rules of a line.
use Rattle.std.proofs.Common.{◌≡◌, ℕ, ◌+◌, ◌*◌, ◌/◌, ◌<◌, ◌≤◌, true, List, ◌++◌, length, get_or, sym, refl, ap, ◌∙◌, arith, length-append}
use Rattle.std.proofs.lemmas.List.{get_or_append_left, get_or-append-add}
use Rattle.std.proofs.lemmas.Bool.{leb-true}
use Rattle.std.proofs.lemmas.Bool.Decides.{nat_tests}
use Rattle.coding.specs.Bits.{are_bits}
use Rattle.coding.specs.Distance.{distance}
use Rattle.line.specs.Line.{LineRules}
use Rattle.line.specs.Stages.{vote, voted, repetition}
use Rattle.line.proofs.Sums.{apart, total, total_le, total_plus, total_double, total_join, distance_total, bit_at, bits_append}
use Rattle.line.proofs.Sums.{bits_listed, length_listed, get_d_listed}

vote_bit : (a b c d : ℕ) → vote a b c d < 2
vote_bit a b c d = grind (arith, nat_tests)

-- a wrong vote takes two wrong voters
vote_apart : (a b c d w : ℕ) → a < 2 → b < 2 → c < 2 → d < 2 → w < 2 →
    2 * apart (vote a b c d) w ≤ apart a w + apart b w + apart c w + apart d w
vote_apart a b c d w ha hb hc hd hw = grind (arith, nat_tests)

-- the word four times over
abbrev copies : List ℕ → List ℕ
copies w = w ++ (w ++ (w ++ w))

copies_length : (w : List ℕ) → length (copies w) ≡ 4 * length w
copies_length w = simp length-append (omega arith)

copy_0 : (w : List ℕ) (i : ℕ) → i < length w → get_or (copies w) i 0 ≡ get_or w i 0
copy_0 w i h = get_or_append_left w (w ++ (w ++ w)) 0 i h

copy_1 : (w : List ℕ) (i : ℕ) → i < length w → get_or (copies w) (length w + i) 0 ≡ get_or w i 0
copy_1 w i h = get_or-append-add w (w ++ (w ++ w)) i 0 ∙ get_or_append_left w (w ++ w) 0 i h

copy_2 : (w : List ℕ) (i : ℕ) → i < length w → get_or (copies w) (length w + (length w + i)) 0 ≡ get_or w i 0
copy_2 w i h = get_or-append-add w (w ++ (w ++ w)) (length w + i) 0 ∙ get_or-append-add w (w ++ w) i 0 ∙ get_or_append_left w w 0 i h

copy_3 : (w : List ℕ) (i : ℕ) → i < length w → get_or (copies w) (length w + (length w + (length w + i))) 0 ≡ get_or w i 0
copy_3 w i h =
    get_or-append-add w (w ++ (w ++ w)) (length w + (length w + i)) 0
    ∙ get_or-append-add w (w ++ w) (length w + i) 0
    ∙ get_or-append-add w w i 0

-- a sum over four times n places, by turns
total_four : (f : ℕ → ℕ) (n : ℕ) →
    total f (n + (n + (n + n))) ≡ total (λ i. f i + f (n + i) + f (n + (n + i)) + f (n + (n + (n + i)))) n
total_four f n =
    let a = total_join f n (n + (n + n)) in
    let b = total_join (λ i. f (n + i)) n (n + n) in
    let c = total_join (λ i. f (n + (n + i))) n n in
    let d = total_plus f (λ i. f (n + i)) n in
    let e = total_plus (λ i. f i + f (n + i)) (λ i. f (n + (n + i))) n in
    let g = total_plus (λ i. f i + f (n + i) + f (n + (n + i))) (λ i. f (n + (n + (n + i)))) n in
    omega arith

-- the voters of a place
voters : (x : List ℕ) (n i : ℕ) → length x / 4 ≡ n →
    voted x (length x / 4) i ≡ vote (get_or x i 0) (get_or x (n + i) 0) (get_or x (n + (n + i)) 0) (get_or x (n + (n + (n + i))) 0)
voters x n i q =
    let two : 2 * (length x / 4) + i ≡ n + (n + i) = omega arith in
    let three : 3 * (length x / 4) + i ≡ n + (n + (n + i)) = omega arith in
    rw (two, three, q)

module _ (w x : List ℕ) (hw : are_bits w ≡ true) (hx : are_bits x ≡ true) (l : length x ≡ 4 * length w) where
  -- a wrong bit of the word has two wrong line bits among its copies
  place : (i : ℕ) → i < length w →
      let n = length w in
      let e : ℕ → ℕ = λ j. apart (get_or x j 0) (get_or (copies w) j 0) in
      2 * apart (get_or (repetition.decode x) i 0) (get_or w i 0) ≤ e i + e (n + i) + e (n + (n + i)) + e (n + (n + (n + i)))
  place i k =
      let n = length w in
      let q : length x / 4 ≡ n = omega arith in
      let decoded : get_or (repetition.decode x) i 0 ≡ voted x (length x / 4) i =
      get_d_listed (voted x (length x / 4)) (length x / 4) i (omega arith) in
      let votes = vote_apart (get_or x i 0) (get_or x (n + i) 0) (get_or x (n + (n + i)) 0) (get_or x (n + (n + (n + i))) 0) (get_or w i 0)
      (bit_at x hx i) (bit_at x hx (n + i)) (bit_at x hx (n + (n + i))) (bit_at x hx (n + (n + (n + i)))) (bit_at w hw i) in
      rw (decoded, voters x n i q, copy_0 w i k, copy_1 w i k, copy_2 w i k, copy_3 w i k) votes

  near : distance (repetition.decode x) w ≤ distance x (copies w) / 2
  near =
      let n = length w in
      let e : ℕ → ℕ = λ j. apart (get_or x j 0) (get_or (copies w) j 0) in
      let f : ℕ → ℕ = λ j. apart (get_or (repetition.decode x) j 0) (get_or w j 0) in
      let ly = copies_length w in
      let line : distance x (copies w) ≡ total e (n + (n + (n + n))) =
      distance_total x (copies w) (l ∙ sym ly) ∙ ap (total e) (omega arith) in
      let lx : length (repetition.decode x) ≡ n = length_listed (voted x (length x / 4)) (length x / 4) ∙ omega arith in
      let word : distance (repetition.decode x) w ≡ total f n = distance_total (repetition.decode x) w lx in
      let turns = total_four e n in
      let double = total_double f n in
      let places = total_le (λ i. 2 * f i) _ n place in
      omega arith

pub repetition_rules : LineRules repetition
repetition_rules = record {
  longer = λ a b _ _ h. omega arith;
  short = λ n h. let k = leb-true (4 * n) 4096 h in (omega arith, k);
  encodes = λ n w last _ word _. (
    copies_length w ∙ ap (λ (k : ℕ). 4 * k) word.0,
    bits_append w (w ++ (w ++ w)) word.1 (bits_append w (w ++ w) word.1 (bits_append w w word.1 word.1)),
  );
  decodes = λ n x _ line. (
    length_listed (voted x (length x / 4)) (length x / 4) ∙ omega (arith, line.0),
    bits_listed (voted x (length x / 4)) (length x / 4) (λ i _. vote_bit _ _ _ _),
  );
  none = refl;
  rising = λ j k h. omega arith;
  near = λ n w last x _ word _ line. near w x word.1 line.1 (line.0 ∙ ap (λ (k : ℕ). 4 * k) (sym word.0));
}
