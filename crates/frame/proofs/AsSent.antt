-- Bits within six places of a frame's bits are judged as that frame.
use Rattle.std.proofs.Common.{◌≡◌, ℕ, zero, suc, ◌+◌, ◌^◌, ◌<◌, ◌≤◌, true, cond, eqb, List, [], ◌∷◌, ◌++◌, length, take, drop, Ok, Err, Result, sym, refl, ap, ◌∙◌, subst, ap₂, arith}
use Rattle.std.specs.List.{AllByRecursion}
use Rattle.std.proofs.lemmas.List.{take_at, drop_at, drop-drop, append_assoc, length-append, length-take-le, length-drop, take_all, take-append-drop}
use Rattle.std.proofs.ByRecursion.{All-take, All-drop}
use Rattle.std.proofs.lemmas.Bool.{eq-eqb, le-leb, lt-leb, cond-true, cond-false}
use Rattle.coding.specs.Bits.{are_bits, bits, number, octet_bits, groups}
use Rattle.coding.specs.Distance.{distance}
use Rattle.coding.specs.Crc.{crc8}
use Rattle.coding.proofs.Words.{length_bits, bits_bits, bits_append, bits_take, bits_drop}
use Rattle.coding.proofs.Numbers.{number_bits}
use Rattle.coding.proofs.Distances.{distance_append, distance_triangle}
use Rattle.coding.proofs.Quotient.{crc_only}
use Rattle.field.specs.Code.{encode, parity, Codeword}
use Rattle.bch.specs.Nearest.{nearest}
use Rattle.bch.specs.Codec.{found}
use Rattle.bch.specs.declared.word.CodeRefusal.TheVariants.{NotBits}
use Rattle.bch.proofs.Nearby.{near_nearest}
use Rattle.content.specs.declared.entry.Content.{Content}
use Rattle.frame.specs.Frame.{unique_word, saying, checked, half_bits}
use Rattle.frame.specs.Judging.{and_then, unique_of, understood, checked_half, half_from, judged_half, frame_from, JudgedAsSent}
use Rattle.frame.specs.declared.carried.Frame.{Frame}
use Rattle.frame.specs.declared.carried.Half.{Half}
use Rattle.frame.specs.declared.refusal.FrameRefusal.{FrameRefusal}
use Rattle.frame.specs.declared.refusal.FrameRefusal.TheVariants.{Crc}
use Rattle.frame.proofs.Octets.{length_octet_bits, length_saying, length_half, saying_bits}

-- ---- the unique word
-- the two unique words differ in every place
words_apart : distance (unique_word 0) (unique_word 1) ≡ 22
unfolding distance bits
words_apart = refl

unique_near : (w : List ℕ) (u : ℕ) → u < 2 → length w ≡ 22 → distance w (unique_word u) ≤ 6 → unique_of w ≡ Ok u
unique_near w zero h l near = cond-true _ _ _ (le-leb (distance w (unique_word 0)) 6 near)
unique_near w (suc zero) h l near =
    let apart : 22 ≤ distance w (unique_word 0) + distance w (unique_word 1) =
    subst (λ (d : ℕ). d ≤ distance w (unique_word 0) + distance w (unique_word 1)) words_apart
    (distance_triangle w (unique_word 0) (unique_word 1) (l ∙ sym (length_bits 22 _)) (l ∙ sym (length_bits 22 _)))
    in
    let far : 6 < distance w (unique_word 0) = omega arith in
    cond-false _ _ _ (lt-leb (distance w (unique_word 0)) 6 far) ∙ cond-true _ _ _ (le-leb (distance w (unique_word 1)) 6 near)
unique_near w (suc (suc u)) h l near = absurd (omega arith)

-- ---- what a half says
-- octets come back from bits that begin with theirs
octets_back : (n : ℕ) (os rest : List ℕ) → length os ≡ n → AllByRecursion (λ o. o < 256) os → groups 8 n (octet_bits os ++ rest) ≡ os
unfolding groups octet_bits
octets_back zero [] rest e a = refl
octets_back zero (o ∷ os) rest e a = absurd (omega arith)
octets_back (suc n) [] rest e a = absurd (omega arith)
octets_back (suc n) (o ∷ os) rest e a =
    ap (groups 8 (suc n)) (append_assoc (bits 8 o) (octet_bits os) rest)
    ∙ ap₂ (λ (b r : List ℕ). number b ∷ groups 8 n r)
    (take_at (bits 8 o) (octet_bits os ++ rest) 8 (length_bits 8 o)) (drop_at (bits 8 o) (octet_bits os ++ rest) 8 (length_bits 8 o))
    ∙ ap₂ (λ (y : ℕ) (r : List ℕ). y ∷ r) (number_bits 8 o a.0) (octets_back n os rest (omega arith) a.1)

-- the second and the third of three parts
second_part : (a b c : List ℕ) (m n : ℕ) → length a ≡ m → length b ≡ n → take n (drop m (a ++ (b ++ c))) ≡ b
second_part a b c m n la lb = ap (take n) (drop_at a (b ++ c) m la) ∙ take_at b c n lb

third_part : (a b c : List ℕ) (m n k : ℕ) → length a ≡ m → length b ≡ n → length c ≡ k → take k (drop (m + n) (a ++ (b ++ c))) ≡ c
third_part a b c m n k la lb lc =
    ap (take k) (sym (drop-drop n m (a ++ (b ++ c))) ∙ ap (drop n) (drop_at a (b ++ c) m la) ∙ drop_at b c n lb)
    ∙ take_all k c (omega arith)

-- a half by its parts
abbrev half_with : List ℕ → Content → Half
half_with os x = record { octets = os; content = x }

passed : (half a b : ℕ) (h k : Half) → a ≡ b → h ≡ k → cond (eqb a b) (Ok h) (Err (Crc half)) ≡ Ok k
passed half a b h k e p = cond-true (eqb a b) (Ok h) (Err (Crc half)) (eq-eqb a b e) ∙ ap Ok p

-- a codeword's first 61 bits, and the 8 after them
said_part : (said : List ℕ) → length said ≡ 61 → take 61 (encode (checked said)) ≡ said
unfolding encode
said_part said l =
    let p = bits 42 (parity (checked said)) in
    ap (take 61) (append_assoc said (bits 8 (crc8 said)) p) ∙ take_at said (bits 8 (crc8 said) ++ p) 61 l

crc_part : (said : List ℕ) → length said ≡ 61 → are_bits said ≡ true → number (take 8 (drop 61 (encode (checked said)))) ≡ crc8 said
unfolding encode
crc_part said l b =
    let p = bits 42 (parity (checked said)) in
    ap (λ (z : List ℕ). number (take 8 (drop 61 z))) (append_assoc said (bits 8 (crc8 said)) p)
    ∙ ap number (second_part said (bits 8 (crc8 said)) p 61 8 l (length_bits 8 (crc8 said)))
    ∙ number_bits 8 (crc8 said) (crc_only said b).remains.small

half_codeword : (said : List ℕ) → length said ≡ 61 → are_bits said ≡ true → Codeword (encode (checked said))
half_codeword said l b =
    record {
      message = checked said;
      sixty_nine = length-append said (bits 8 (crc8 said)) ∙ omega (arith, length_bits 8 (crc8 said));
      bit = bits_append said (bits 8 (crc8 said)) b (bits_bits 8 (crc8 said));
      is = refl;
    }

module _ (os : List ℕ) (x : Content) (l : length os ≡ 4) (a : AllByRecursion (λ o. o < 256) os) (hi : x.id < 2 ^ 5) (hw : x.word < 2 ^ 24) where
  understood_saying : understood (saying os x) ≡ half_with os x
  understood_saying =
      let i = bits 5 x.id in
      let t = bits 24 x.word in
      let lo : length (octet_bits os) ≡ 32 = length_octet_bits os ∙ omega arith in
      let id-is : number (take 5 (drop 32 (saying os x))) ≡ x.id =
      ap number (second_part (octet_bits os) i t 32 5 lo (length_bits 5 x.id)) ∙ number_bits 5 x.id hi
      in
      let word-is : number (take 24 (drop 37 (saying os x))) ≡ x.word =
      ap number (third_part (octet_bits os) i t 32 5 24 lo (length_bits 5 x.id) (length_bits 24 x.word)) ∙ number_bits 24 x.word hw
      in
      λ k. record { octets = octets_back 4 os (i ++ t) l a k; content = record { id = id-is k; word = word-is k } }

  half_checked : (half : ℕ) → checked_half half (half_bits os x) ≡ Ok (half_with os x)
  half_checked half =
      let said = saying os x in
      let ls = length_saying os x l in
      let c = half_bits os x in
      passed half (number (take 8 (drop 61 c))) (crc8 (take 61 c)) (understood (take 61 c)) (half_with os x)
      (crc_part said ls (saying_bits os x) ∙ ap crc8 (sym (said_part said ls))) (ap understood (said_part said ls) ∙ understood_saying)

  -- within six places of the half
  half_near : (half : ℕ) (w : List ℕ) → length w ≡ 111 → are_bits w ≡ true → distance w (half_bits os x) ≤ 6
      → judged_half half w ≡ Ok (half_with os x)
  half_near half w lw b near =
      let code = half_codeword (saying os x) (length_saying os x l) (saying_bits os x) in
      let nearby = near_nearest w lw b (half_bits os x) (record { code = code; near = near }) in
      ap (half_from half) (cond-true (are_bits w) (found w (nearest w)) (Err NotBits) b ∙ ap (found w) nearby) ∙ half_checked half

-- ---- the frame
-- the distance of 244 bits from a unique word and two halves, part by part
parts_distance : (w u y z : List ℕ) → length w ≡ 244 → length u ≡ 22 → length y ≡ 111
    → distance w (u ++ (y ++ z)) ≡ distance (take 22 w) u + (distance (take 111 (drop 22 w)) y + distance (drop 133 w) z)
parts_distance w u y z l lu ly =
    let r = drop 22 w in
    let whole : take 22 w ++ (take 111 r ++ drop 133 w) ≡ w =
    ap (λ (t : List ℕ). take 22 w ++ (take 111 r ++ t)) (sym (drop-drop 111 22 w))
    ∙ ap (λ (t : List ℕ). take 22 w ++ t) (take-append-drop 111 r) ∙ take-append-drop 22 w
    in
    let la : length (take 22 w) ≡ length u = length-take-le 22 w (omega arith) ∙ sym lu in
    let lb : length (take 111 r) ≡ length y = length-take-le 111 r (omega (arith, length-drop 22 w)) ∙ sym ly in
    ap (λ (t : List ℕ). distance t (u ++ (y ++ z))) (sym whole)
    ∙ distance_append (take 22 w) (take 111 r ++ drop 133 w) u (y ++ z) la
    ∙ ap (λ (n : ℕ). distance (take 22 w) u + n) (distance_append (take 111 r) (drop 133 w) y z lb)

-- three steps that do not refuse
three_steps : (r : Result ℕ FrameRefusal) (s t : Result Half FrameRefusal) (u : ℕ) (a b : Half) → r ≡ Ok u → s ≡ Ok a → t ≡ Ok b
    → and_then r (λ n. and_then s (λ x. and_then t (λ y. Ok (frame_from n x y)))) ≡ Ok (frame_from u a b)
three_steps r s t u a b p q o = λ k. and_then (p k) (λ n. and_then (q k) (λ x. and_then (o k) (λ y. Ok (frame_from n x y))))

-- a frame put together from its own parts
frame_again : (f : Frame)
    → frame_from f.unique (half_with (take 4 f.identifier) f.first) (half_with (drop 4 f.identifier) f.second) ≡ f
frame_again f =
    λ k. record { unique = f.unique; identifier = take-append-drop 4 f.identifier k; first = f.first; second = f.second }

pub judged_as_sent : JudgedAsSent
judged_as_sent f w s l b near =
    let high = take 4 f.identifier in
    let low = drop 4 f.identifier in
    let lh : length high ≡ 4 = length-take-le 4 f.identifier (omega (arith, s.eight)) in
    let ll : length low ≡ 4 = length-drop 4 f.identifier ∙ omega (arith, s.eight) in
    let one = take 111 (drop 22 w) in
    let two = drop 133 w in
    let parts =
    parts_distance w (unique_word f.unique) (half_bits high f.first) (half_bits low f.second) l (length_bits 22 _)
    (length_half high f.first lh)
    in
    let u : unique_of (take 22 w) ≡ Ok f.unique =
    unique_near (take 22 w) f.unique s.unique (length-take-le 22 w (omega arith)) (omega (arith, parts, near))
    in
    let x : judged_half 1 one ≡ Ok (half_with high f.first) =
    half_near high f.first lh (All-take _ 4 f.identifier s.octets) s.first_id s.first_word 1 one
    (length-take-le 111 (drop 22 w) (omega (arith, length-drop 22 w))) (bits_take 111 (drop 22 w) (bits_drop 22 w b))
    (omega (arith, parts, near))
    in
    let y : judged_half 2 two ≡ Ok (half_with low f.second) =
    half_near low f.second ll (All-drop _ 4 f.identifier s.octets) s.second_id s.second_word 2 two
    (length-drop 133 w ∙ omega arith) (bits_drop 133 w b) (omega (arith, parts, near))
    in
    three_steps (unique_of (take 22 w)) (judged_half 1 one) (judged_half 2 two) f.unique (half_with high f.first)
    (half_with low f.second) u x y
    ∙ ap Ok (frame_again f)
