-- A buffer that several texts fill, one after the other.
use Rattle.std.proofs.Common.{◌≡◌, ℕ, ◌-◌, ◌≤◌, List, [], ◌++◌, length, replicate, ap, ◌∙◌, arith}
use Rattle.std.proofs.lemmas.List.{append-nil, length-take}
use Rattle.buffers.specs.Buffer.{text_of, appended, padded}
use Rattle.buffers.specs.declared.buffer.Buffer.{Buffer}
use Rattle.buffers.proofs.Appending.{appended_appended, appended_whole}

-- a buffer holds as many octets as it may
pub text_within : {n : ℕ} (b : Buffer n) → length (text_of b) ≤ n
unfolding text_of
text_within b = omega (arith, b.within, length-take b.len b.room)

-- a full buffer has no zeros behind its text
full : (n : ℕ) (t : List ℕ) → length t ≡ n → padded n t ≡ t
full n t l =
    let none : n - length t ≡ 0 = omega arith in
    ap (λ (k : ℕ). t ++ replicate k 0) none ∙ append-nil t

module _ (n : ℕ) (a b x y z : List ℕ) (empty : x ≡ []) (first : y ≡ appended n x a) (second : z ≡ appended n y b) where
  two : z ≡ appended n [] (a ++ b)
  two =
      second ∙ ap (λ (t : List ℕ). appended n t b) (first ∙ ap (λ (t : List ℕ). appended n t a) empty)
      ∙ appended_appended n [] a b

  pub filled_by_two : length (a ++ b) ≡ n → padded n z ≡ a ++ b
  filled_by_two l =
      let e : z ≡ a ++ b = two ∙ appended_whole n [] (a ++ b) (omega arith) in
      ap (padded n) e ∙ full n (a ++ b) l

  pub filled_by_three : (c w : List ℕ) → w ≡ appended n z c → length ((a ++ b) ++ c) ≡ n → padded n w ≡ (a ++ b) ++ c
  filled_by_three c w third l =
      let e : w ≡ (a ++ b) ++ c = third ∙ ap (λ (t : List ℕ). appended n t c) two ∙ appended_appended n [] (a ++ b) c ∙ appended_whole n [] ((a ++ b) ++ c) (omega arith) in
      ap (padded n) e ∙ full n ((a ++ b) ++ c) l
