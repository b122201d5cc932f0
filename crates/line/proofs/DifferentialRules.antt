-- Differential coding keeps the rules of a line.
use Rattle.std.proofs.Common.{◌≡◌, ℕ, zero, suc, ◌+◌, ◌-◌, ◌*◌, ◌<◌, ◌≤◌, true, List, length, get_or, sym, refl, ap, ◌∙◌, add-one, arith}
use Rattle.std.proofs.lemmas.Bool.{leb-true}
use Rattle.coding.specs.Bits.{are_bits, plus}
use Rattle.coding.specs.Distance.{distance}
use Rattle.line.specs.Line.{LineRules}
use Rattle.line.specs.Stages.{running, differential}
use Rattle.line.proofs.Sums.{apart, total, total_le, total_plus, total_join, distance_total, bit_at, plus_bit, plus_apart}
use Rattle.line.proofs.Sums.{bits_listed, length_listed, get_d_listed}

pub running_bit : (w : List ℕ) (last : ℕ) → last < 2 → (i : ℕ) → running w last i < 2
running_bit w last h zero = h
running_bit w last h (suc i) = plus_bit (running w last i) (get_or w i 0)

-- two neighbours give the bit back
back : (w : List ℕ) (last i : ℕ) → last < 2 → get_or w i 0 < 2 → plus (running w last i) (running w last (i + 1)) ≡ get_or w i 0
back w last i h hw =
    let r = running_bit w last h i in
    rw (add-one i) (omega arith)

module _ (w : List ℕ) (last : ℕ) (x : List ℕ) (hw : are_bits w ≡ true) (hb : last < 2) (hx : are_bits x ≡ true)
    (l : length x ≡ length w + 1) where
  -- a wrong bit of the word has a wrong line bit on one side of it
  place : (i : ℕ) → i < length w → apart (get_or (differential.decode x) i 0) (get_or w i 0) ≤
      apart (get_or x i 0) (get_or (differential.encode w last) i 0) + apart (get_or x (1 + i) 0) (get_or (differential.encode w last) (1 + i) 0)
  place i k =
      let decoded : get_or (differential.decode x) i 0 ≡ plus (get_or x i 0) (get_or x (i + 1) 0) =
      get_d_listed (λ j. plus (get_or x j 0) (get_or x (j + 1) 0)) (length x - 1) i (omega arith) in
      let here : get_or (differential.encode w last) i 0 ≡ running w last i = get_d_listed (running w last) (length w + 1) i (omega arith) in
      let next : get_or (differential.encode w last) (i + 1) 0 ≡ running w last (i + 1) =
      get_d_listed (running w last) (length w + 1) (i + 1) (omega arith) in
      let swap : 1 + i ≡ i + 1 = omega arith in
      let sums = plus_apart (get_or x i 0) (get_or x (i + 1) 0) (running w last i) (running w last (i + 1))
      (bit_at x hx i) (bit_at x hx (i + 1)) (running_bit w last hb i) (running_bit w last hb (i + 1)) in
      rw (swap, decoded, here, next) (rw (back w last i hb (bit_at w hw i)) at sums)

  near : distance (differential.decode x) w ≤ 2 * distance x (differential.encode w last)
  near =
      let n = length w in
      let y = differential.encode w last in
      let d : ℕ → ℕ = λ i. apart (get_or x i 0) (get_or y i 0) in
      let ly : length y ≡ n + 1 = length_listed (running w last) (n + 1) in
      let lx : length (differential.decode x) ≡ n =
      length_listed (λ i. plus (get_or x i 0) (get_or x (i + 1) 0)) (length x - 1) ∙ omega arith in
      let line : distance x y ≡ total d (n + 1) = distance_total x y (l ∙ sym ly) ∙ ap (total d) ly in
      let word = distance_total (differential.decode x) w lx in
      let front : total d (n + 1) ≡ total d n + total (λ i. d (n + i)) 1 = total_join d n 1 in
      let rest : total d (1 + n) ≡ total d 1 + total (λ i. d (1 + i)) n = total_join d 1 n in
      let swap : total d (1 + n) ≡ total d (n + 1) = ap (total d) (omega arith) in
      let places = total_le _ _ n place in
      let split = total_plus d (λ i. d (1 + i)) n in
      omega arith

pub differential_rules : LineRules differential
differential_rules = record {
  longer = λ a b _ _ h. omega arith;
  short = λ n h. let k = leb-true (n + 1) 4096 h in (omega arith, omega arith);
  encodes = λ n w last _ word hb. (
    length_listed (running w last) (length w + 1) ∙ ap (λ (k : ℕ). k + 1) word.0,
    bits_listed (running w last) (length w + 1) (λ i _. running_bit w last hb i),
  );
  decodes = λ n x _ line. (
    length_listed (λ i. plus (get_or x i 0) (get_or x (i + 1) 0)) (length x - 1) ∙ omega (arith, line.0),
    bits_listed (λ i. plus (get_or x i 0) (get_or x (i + 1) 0)) (length x - 1) (λ i _. plus_bit (get_or x i 0) (get_or x (i + 1) 0)),
  );
  none = refl;
  rising = λ j k h. omega arith;
  near = λ n w last x _ word hb line. near w last x word.1 hb line.1 (line.0 ∙ ap (λ (k : ℕ). k + 1) (sym word.0));
}
