use Rattle.std.proofs.Common.{◌≡◌, ℕ, ◌+◌, ◌-◌, ◌*◌, ◌≤◌, List, [], ◌++◌, length, take, drop, refl, ap, ◌∙◌, append_assoc, arith, length-append, length-take, length-drop}
use borrow.Rule.Slice.PartMut.{put_mid}
use Rattle.std.proofs.lemmas.List.{append-nil, take_at, drop_all}
use Rattle.std.proofs.lemmas.Slice.{take-put_mid}
use Rattle.line.specs.Stages.{repetition}
use Rattle.line.proofs.Answers.{encodes}
use Rattle.line_stages.proofs.repetition.RepetitionLine.encode.Goals as goal

-- w is written into a list that begins with xs, right after them
written : (xs ys w : List ℕ) (i j k : ℕ) → length xs ≡ i → take i ys ≡ xs → j ≡ i + length w → take j (put_mid i k ys w) ≡ xs ++ w
written xs ys w i j k l e q =
    let room : i ≤ length ys = omega (arith, length-take i ys, ap length e) in
    take-put_mid i k ys w j q room ∙ ap (λ (z : List ℕ). z ++ w) e

-- and so up to its end
written_last : (xs ys w : List ℕ) (i : ℕ) → take i ys ≡ xs → put_mid i (length ys - i) ys w ≡ xs ++ w
written_last xs ys w i e =
    let none : drop (length ys - i) (drop i ys) ≡ [] = drop_all (length ys - i) (drop i ys) (omega (arith, length-drop i ys)) in
    rw (e, none, append-nil)

-- quarter after quarter
copied : (w o : List ℕ) →
    let n = length w in
    let two = put_mid n (2 * n - n) (w ++ drop n o) w in
    let three = put_mid (2 * n) (3 * n - 2 * n) two w in
    put_mid (3 * n) (length three - 3 * n) three w ≡ w ++ (w ++ (w ++ w))
copied w o =
    let n = length w in
    let one = w ++ drop n o in
    let two = put_mid n (2 * n - n) one w in
    let three = put_mid (2 * n) (3 * n - 2 * n) two w in
    let second = written w one w n (2 * n) (2 * n - n) refl (take_at w (drop n o) n refl) (omega arith) in
    let third = written (w ++ w) two w (2 * n) (3 * n) (3 * n - 2 * n) (omega (arith, length-append w w)) second (omega arith) in
    let all = written_last (w ++ w ++ w) three w (3 * n) third in
    simp append_assoc at all

pub returns-clause-output : goal.returns-clause-output
returns-clause-output c =
    let w = c.args.word.now in
    let e = encodes repetition w c.args.last c.args.out.now c.in_ok-check_word.ensures in
    rw (
      e.output,
      c.copy_from_slice.ensures.after,
      c.copy_from_slice-2.ensures.after,
      c.copy_from_slice-3.ensures.after,
      c.copy_from_slice-4.ensures.after,
    ) (copied w c.args.out.now)
