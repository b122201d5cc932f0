-- What the standard's line makes of a frame, in the standard's own steps.
use Rattle.std.proofs.Common.{◌≡◌, ℕ, zero, suc, ◌+◌, ◌-◌, ◌<◌, ◌≤◌, true, List, [], ◌∷◌, length, get_or, take, drop, sym, refl, ap, ◌∙◌, ap₂, ⊎_elim, add-one, arith}
use Rattle.std.proofs.lemmas.List.{same_lists, get_or_default, get_or-take, get_or-drop, get_or_append_left, get_or-append_right, length-append, length-take-le, length-drop}
use Rattle.std.proofs.lemmas.Bool.{cases_lt}
use Rattle.coding.specs.Bits.{are_bits, plus}
use Rattle.coding.proofs.Words.{bit_at}
use Rattle.line.specs.Stages.{listed, shifted, sequence, mask, running}
use Rattle.line.specs.Stages as stage
use Rattle.line.specs.Lines.{standard}
use Rattle.line.proofs.Sums.{length_listed, get_d_listed}
use Rattle.line.proofs.ScramblingRules.{mask_low, mask_high}
use Rattle.sender.specs.Signal.{generated, initial, added, scrambled, repeated, differential}

-- words that are as long and have the same bit at each place
same_words : (xs ys : List ℕ) → length xs ≡ length ys → ((k : ℕ) → k < length xs → get_or xs k 0 ≡ get_or ys k 0) → xs ≡ ys
same_words xs ys e h =
    same_lists xs ys e (λ k d l. get_or_default xs k d 0 l ∙ h k l ∙ get_or_default ys k 0 d (omega arith))

-- ---- scrambling
-- the generator gives the scrambling sequence
generated_is : generated 222 initial ≡ listed (λ n. sequence (n + 9)) 222
unfolding generated shifted
generated_is = refl

length_added : (xs ys : List ℕ) → length (added xs ys) ≡ length xs
unfolding added
length_added [] ys = refl
length_added (x ∷ xs) [] = refl
length_added (x ∷ xs) (y ∷ ys) = ap suc (length_added xs ys)

get_d_added : (xs ys : List ℕ) (i : ℕ) → i < length xs → i < length ys → get_or (added xs ys) i 0 ≡ plus (get_or xs i 0) (get_or ys i 0)
unfolding added
get_d_added [] ys i h k = absurd (omega arith)
get_d_added (x ∷ xs) [] i h k = absurd (omega arith)
get_d_added (x ∷ xs) (y ∷ ys) zero h k = refl
get_d_added (x ∷ xs) (y ∷ ys) (suc i) h k = get_d_added xs ys i (omega arith) (omega arith)

bit_plus_none : (b : ℕ) → b < 2 → plus b 0 ≡ b
bit_plus_none b h = omega arith

module _ (f : List ℕ) (long : length f ≡ 244) (bits : are_bits f ≡ true) where
  length_scrambled : length (scrambled f) ≡ 244
  length_scrambled =
      length-append (take 22 f) (added (drop 22 f) (generated 222 initial))
      ∙ omega (arith, length-take-le 22 f (omega arith), length_added (drop 22 f) (generated 222 initial), length-drop 22 f)

  front : (i : ℕ) → i < 22 → plus (get_or f i 0) (mask i) ≡ get_or (scrambled f) i 0
  front i h =
      ap (plus (get_or f i 0)) (mask_low i h)
      ∙ bit_plus_none (get_or f i 0) (bit_at f bits i)
      ∙ sym (
      get_or_append_left (take 22 f) (added (drop 22 f) (generated 222 initial)) 0 i (omega (arith, length-take-le 22 f (omega arith)))
      ∙ get_or-take 22 f i 0 h)

  behind : (i : ℕ) → i < 244 → 22 ≤ i → plus (get_or f i 0) (mask i) ≡ get_or (scrambled f) i 0
  behind i l h =
      let j : ℕ = i - 22 in
      let place : 22 + (i - 22) ≡ i = omega arith in
      let given : get_or (generated 222 initial) (i - 22) 0 ≡ sequence (i - 22 + 9) =
      ap (λ (g : List ℕ). get_or g (i - 22) 0) generated_is ∙ get_d_listed (λ n. sequence (n + 9)) 222 (i - 22) (omega arith)
      in
      let length-generated : length (generated 222 initial) ≡ 222 = ap length generated_is ∙ length_listed (λ n. sequence (n + 9)) 222 in
      ap (plus (get_or f i 0)) (mask_high i h)
      ∙ sym (
      get_or-append_right (take 22 f) (added (drop 22 f) (generated 222 initial)) 22 i 0 (length-take-le 22 f (omega arith)) h
      ∙ get_d_added (drop 22 f) (generated 222 initial) (i - 22) (omega (arith, length-drop 22 f)) (omega arith)
      ∙ ap₂ plus (get_or-drop 22 f (i - 22) 0 ∙ ap (λ (n : ℕ). get_or f n 0) place) given)

  pub scrambled_is : stage.scrambled f ≡ scrambled f
  scrambled_is =
      same_words (stage.scrambled f) (scrambled f) (length_listed _ (length f) ∙ long ∙ sym length_scrambled)
      (λ k h.
      let l : k < length f = omega (arith, length_listed (λ i. plus (get_or f i 0) (mask i)) (length f)) in
      get_d_listed (λ i. plus (get_or f i 0) (mask i)) (length f) k l
      ∙ ⊎_elim (λ low. front k low) (λ high. behind k (omega arith) high) (cases_lt k 22))

-- ---- differential coding
running_on : (b : ℕ) (x : List ℕ) (last i : ℕ) → running (b ∷ x) last (suc i) ≡ running x (plus last b) i
running_on b x last zero = refl
running_on b x last (suc i) = ap (λ (r : ℕ). plus r (get_or x i 0)) (running_on b x last i)

plus_comm : (a b : ℕ) → plus a b ≡ plus b a
plus_comm a b = omega arith

length_differential : (last : ℕ) (x : List ℕ) → length (differential last x) ≡ length x
unfolding differential
length_differential last [] = refl
length_differential last (b ∷ x) = ap suc (length_differential (plus b last) x)

get_d_differential : (x : List ℕ) (last i : ℕ) → i ≤ length x → running x last i ≡ get_or (last ∷ differential last x) i 0
unfolding differential
get_d_differential x last zero h = refl
get_d_differential [] last (suc i) h = absurd (omega arith)
get_d_differential (b ∷ x) last (suc i) h =
    running_on b x last i
    ∙ ap (λ (l : ℕ). running x l i) (plus_comm last b)
    ∙ get_d_differential x (plus b last) i (omega arith)

-- the last bit, and then what the differential encoder gives
pub differential_is : (x : List ℕ) (last : ℕ) → listed (running x last) (length x + 1) ≡ last ∷ differential last x
differential_is x last =
    same_words (listed (running x last) (length x + 1)) (last ∷ differential last x)
    (length_listed (running x last) (length x + 1) ∙ add-one (length x) ∙ ap suc (sym (length_differential last x)))
    (λ k h.
    let l : k < length x + 1 = omega (arith, length_listed (running x last) (length x + 1)) in
    get_d_listed (running x last) (length x + 1) k l ∙ get_d_differential x last k (omega arith))

-- the line bits of a frame
pub standard_encode : (f : List ℕ) (last : ℕ) → length f ≡ 244 → are_bits f ≡ true →
    standard.encode f last ≡ last ∷ differential last (repeated (scrambled f))
standard_encode f last long bits =
    differential_is (repeated (stage.scrambled f)) last
    ∙ ap (λ (x : List ℕ). last ∷ differential last (repeated x)) (scrambled_is f long bits)
