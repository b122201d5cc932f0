-- Numbers, octets and halves read off bits.
use Rattle.std.proofs.Common.{◌≡◌, ℕ, ◌+◌, ◌-◌, ◌%◌, ◌^◌, ◌<◌, ◌≤◌, Bool, true, false, List, [], ◌∷◌, length, take, drop, Some, None, Ok, Err, Option, Result, sym, refl, ap, ◌∙◌, ap₂, arith, pow_mono}
use Rattle.std.specs.Result.{result_ok}
use Rattle.std.proofs.lemmas.List.{length-take, length-drop, drop-drop, take_all}
use Rattle.std.proofs.lemmas.Bool.{cond-true, cond-false, eq-eqb, ne_eqb}
use Rattle.coding.specs.Bits.{are_bits, number, groups}
use Rattle.coding.specs.Crc.{crc8}
use Rattle.coding.proofs.Words.{bits_drop, bits_take}
use Rattle.coding.proofs.Numbers.{number_below}
use Rattle.field.proofs.Differences.{word_bits}
use Rattle.bch.specs.Nearest.{nearest, Finds}
use Rattle.bch.specs.Codec.{corrected, found, decoded}
use Rattle.bch.specs.declared.word.Corrected.{Corrected}
use Rattle.bch.specs.declared.word.CodeRefusal.{CodeRefusal}
use Rattle.bch.specs.declared.word.CodeRefusal.TheVariants.{NotBits}
use Rattle.coding.proofs.Groups.{number_fits}
use Rattle.frame.specs.Judging.{and_then, unique_of, understood, checked_half, judged_half, frame_from, judged}
use Rattle.frame.specs.declared.carried.Half.{Half}
use Rattle.frame.specs.declared.refusal.FrameRefusal.{FrameRefusal}
use Rattle.frame.specs.declared.refusal.FrameRefusal.TheVariants.{Crc}

-- at most eight bits write a number below 256
pub small_number : (w : ℕ) (bs : List ℕ) → w ≤ 8 → are_bits bs ≡ true → number (take w bs) < 256
small_number w bs h b =
    let short : length (take w bs) ≤ 8 = omega (arith, length-take w bs) in
    let below : number (take w bs) < 2 ^ length (take w bs) = number_below (take w bs) (bits_take w bs b) in
    let more : 2 ^ length (take w bs) ≤ 2 ^ 8 = pow_mono short in
    omega arith

-- what is read of a part of at most 32 bits
pub part_number : (at w r : ℕ) (bs : List ℕ) → w ≤ 32 → are_bits bs ≡ true → r ≡ number (take (at + w - at) (drop at bs)) % 2 ^ 32 → r ≡ number (take w (drop at bs))
part_number at w r bs h b e =
    let width : at + w - at ≡ w = omega arith in
    e ∙ ap (λ (n : ℕ). number (take n (drop at bs)) % 2 ^ 32) width ∙ number_fits w (drop at bs) h (bits_drop at bs b)

-- the four octets at the front
pub four_octets : (bs : List ℕ) → groups 8 4 bs ≡ number (take 8 bs) ∷ number (take 8 (drop 8 bs)) ∷ number (take 8 (drop 16 bs)) ∷ number (take 8 (drop 24 bs)) ∷ []
unfolding groups
four_octets bs =
    let two : drop 8 (drop 8 bs) ≡ drop 16 bs = drop-drop 8 8 bs in
    let three : drop 8 (drop 8 (drop 8 bs)) ≡ drop 24 bs = ap (drop 8) two ∙ drop-drop 8 16 bs in
    ap₂ (λ (x y : List ℕ). number (take 8 bs) ∷ number (take 8 (drop 8 bs)) ∷ number (take 8 x) ∷ number (take 8 y) ∷ []) two three

-- the codeword that a decoder answers is bits
pub decoded_bits : (w : List ℕ) (a : Corrected) → (are_bits w ≡ true → Finds w) → decoded w ≡ Ok a → are_bits a.codeword ≡ true
decoded_bits w a finds e = go (are_bits w) refl (nearest w) refl
  where
    go : (b : Bool) → are_bits w ≡ b → (o : Option (List ℕ)) → nearest w ≡ o → are_bits a.codeword ≡ true
    go true h (Some c) n =
        let is : Ok a ≡ Ok (corrected w c) = sym e ∙ cond-true (are_bits w) (found w (nearest w)) (Err NotBits) h ∙ ap (found w) n in
        let same : a ≡ corrected w c = cc in
        ap (λ x. are_bits x.codeword) same ∙ word_bits c (((finds h).some c).0 n).code
    go true h None n =
        let is : Ok a ≡ found w None = sym e ∙ cond-true (are_bits w) (found w (nearest w)) (Err NotBits) h ∙ ap (found w) n in
        let z : ◌≡◌ {A = ℕ} 0 1 = cc in
        absurd (omega arith)
    go false h o n =
        let is : ◌≡◌ {A = Result Corrected CodeRefusal} (Ok a) (Err NotBits) = sym e ∙ cond-false (are_bits w) (found w (nearest w)) (Err NotBits) h in
        let z : ◌≡◌ {A = ℕ} 0 1 = cc in
        absurd (omega arith)

pub ok_part : (r : Result Corrected CodeRefusal) (a : Corrected) → result_ok r ≡ Some a → r ≡ Ok a
ok_part (Ok x) a h = let e : x ≡ a = cc in ap Ok e
ok_part (Err f) a h = let z : ◌≡◌ {A = ℕ} 0 1 = cc in absurd (omega arith)

-- the CRC of a codeword, right and wrong
pub crc_right : (half : ℕ) (c : List ℕ) (x : Half) → number (take 8 (drop 61 c)) ≡ crc8 (take 61 c) → x ≡ understood (take 61 c) → Ok x ≡ checked_half half c
crc_right half c x e h = ap Ok h ∙ sym (cond-true _ (Ok (understood (take 61 c))) (Err (Crc half)) (eq-eqb (number (take 8 (drop 61 c))) (crc8 (take 61 c)) e))

pub crc_wrong : (half : ℕ) (c : List ℕ) → (number (take 8 (drop 61 c)) ≡ crc8 (take 61 c) → ⊥) → Err (Crc half) ≡ checked_half half c
crc_wrong half c n = sym (cond-false _ (Ok (understood (take 61 c))) (Err (Crc half)) (ne_eqb (number (take 8 (drop 61 c))) (crc8 (take 61 c)) n))

-- the frame that is judged, once the unique word and half 1 are
module _ (w : List ℕ) (u : ℕ) (a : Half) (first : unique_of (take 22 w) ≡ Ok u) (second : judged_half 1 (take 111 (drop 22 w)) ≡ Ok a) where
  pub judged_rest : and_then (judged_half 2 (drop 133 w)) (λ b. Ok (frame_from u a b)) ≡ judged w
  judged_rest =
      sym (ap (λ x. and_then x (λ v. and_then (judged_half 1 (take 111 (drop 22 w))) (λ h. and_then (judged_half 2 (drop 133 w)) (λ b. Ok (frame_from v h b))))) first
      ∙ ap (λ x. and_then x (λ h. and_then (judged_half 2 (drop 133 w)) (λ b. Ok (frame_from u h b)))) second)

  pub judged_whole : (b : Half) → judged_half 2 (drop 133 w) ≡ Ok b → Ok (frame_from u a b) ≡ judged w
  judged_whole b third = sym (ap (λ x. and_then x (λ h. Ok (frame_from u a h))) third) ∙ judged_rest

  pub judged_refused : (e : FrameRefusal) → judged_half 2 (drop 133 w) ≡ Err e → Err e ≡ judged w
  judged_refused e third = sym (ap (λ x. and_then x (λ h. Ok (frame_from u a h))) third) ∙ judged_rest

-- the last of 244 bits
pub last_half : (w : List ℕ) → length w ≡ 244 → take 111 (drop 133 w) ≡ drop 133 w
last_half w l = take_all 111 (drop 133 w) (omega (arith, length-drop 133 w))
