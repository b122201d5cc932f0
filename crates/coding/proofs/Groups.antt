-- Groups of bits written and read back.
use Rattle.std.proofs.Common.{◌≡◌, ℕ, zero, suc, ◌+◌, ◌-◌, ◌*◌, ◌%◌, ◌^◌, ◌<◌, ◌≤◌, true, List, [], ◌∷◌, ◌++◌, length, get_or, take, drop, sym, refl, ap, ◌∙◌, ap₂, mul-le-mul_right, mod-eq_of_lt, suc-mul, zero-mul, arith, pow_mono}
use borrow.Rule.Slice.PartMut.{put_mid}
use Rattle.std.specs.List.{AllByRecursion}
use Rattle.std.proofs.lemmas.List.{take_at, drop_at, length-append, length-take-le, length-drop, take-append-drop, nil_from_length, append-nil, append_assoc, drop-drop, take_more, length-take, at_drop_more, at_drop_all}
use Rattle.coding.specs.Bits.{are_bits, bits, number, group_bits, groups}
use Rattle.coding.proofs.Words.{length_bits, bits_bits, bits_append, bits_take, bits_drop}
use Rattle.coding.proofs.Numbers.{number_bits, bits_number, number_below}

pub length_group_bits : (w : ℕ) (xs : List ℕ) → length (group_bits w xs) ≡ length xs * w
unfolding group_bits
length_group_bits w [] = sym (zero-mul w)
length_group_bits w (x ∷ xs) =
    length-append (bits w x) (group_bits w xs)
    ∙ ap₂ ◌+◌ (length_bits w x) (length_group_bits w xs)
    ∙ omega (arith, suc-mul (length xs) w)

pub group_bits_bits : (w : ℕ) (xs : List ℕ) → are_bits (group_bits w xs) ≡ true
unfolding group_bits
group_bits_bits w [] = refl
group_bits_bits w (x ∷ xs) = bits_append (bits w x) (group_bits w xs) (bits_bits w x) (group_bits_bits w xs)

-- the groups from the place i on begin with the bits of the number there
pub group_bits_from : (w : ℕ) (xs : List ℕ) (i : ℕ) → i < length xs → group_bits w (drop i xs) ≡ bits w (get_or xs i 0) ++ group_bits w (drop (i + 1) xs)
unfolding group_bits
group_bits_from w xs i h = at_drop_more (group_bits w) xs i 0 h

pub group_bits_end : (w : ℕ) (xs : List ℕ) (i : ℕ) → length xs ≤ i → group_bits w (drop i xs) ≡ []
unfolding group_bits
group_bits_end w xs i h = at_drop_all (group_bits w) xs i h

-- numbers that have room in their groups come back
pub groups_of_bits : (w n : ℕ) (xs : List ℕ) → length xs ≡ n → AllByRecursion (λ x. x < 2 ^ w) xs → groups w n (group_bits w xs) ≡ xs
unfolding groups group_bits
groups_of_bits w zero [] e a = refl
groups_of_bits w (suc n) [] e a = absurd (omega arith)
groups_of_bits w zero (x ∷ xs) e a = absurd (omega arith)
groups_of_bits w (suc n) (x ∷ xs) e a =
    ap₂ (λ (b : List ℕ) (r : List ℕ). number b ∷ groups w n r)
    (take_at (bits w x) (group_bits w xs) w (length_bits w x)) (drop_at (bits w x) (group_bits w xs) w (length_bits w x))
    ∙ ap₂ (λ (y : ℕ) (r : List ℕ). y ∷ r) (number_bits w x a.0) (groups_of_bits w n xs (omega arith) a.1)

pub length_groups : (w n : ℕ) (bs : List ℕ) → length (groups w n bs) ≡ n
unfolding groups
length_groups w zero bs = refl
length_groups w (suc n) bs = ap suc (length_groups w n (drop w bs))

-- and bits that fill their groups come back
pub bits_of_groups : (w n : ℕ) (bs : List ℕ) → length bs ≡ n * w → are_bits bs ≡ true → group_bits w (groups w n bs) ≡ bs
unfolding groups group_bits
bits_of_groups w zero bs e b = sym (nil_from_length bs (e ∙ zero-mul w))
bits_of_groups w (suc n) bs e b =
    let l : length bs ≡ n * w + w = e ∙ suc-mul n w in
    ap₂ ◌++◌ (bits_number (take w bs) w (length-take-le w bs (omega arith)) (bits_take w bs b))
    (bits_of_groups w n (drop w bs) (length-drop w bs ∙ omega arith) (bits_drop w bs b))
    ∙ take-append-drop w bs

-- there is room for a group after i of n others
pub next_group : (i n w : ℕ) → i < n → i * w + w ≤ n * w
next_group i n w h =
    let more : suc i * w ≤ n * w = mul-le-mul_right w h in
    omega (arith, suc-mul i w)

pub group_bits_append : (w : ℕ) (xs ys : List ℕ) → group_bits w (xs ++ ys) ≡ group_bits w xs ++ group_bits w ys
unfolding group_bits
group_bits_append w [] ys = refl
group_bits_append w (x ∷ xs) ys =
    ap (λ (r : List ℕ). bits w x ++ r) (group_bits_append w xs ys) ∙ sym (append_assoc (bits w x) (group_bits w xs) (group_bits w ys))

-- one more group is written
pub group_bits_push : (w : ℕ) (xs : List ℕ) (x : ℕ) → group_bits w (xs ++ (x ∷ [])) ≡ group_bits w xs ++ bits w x
unfolding group_bits
group_bits_push w xs x = group_bits_append w xs (x ∷ []) ∙ ap (λ (r : List ℕ). group_bits w xs ++ r) (append-nil (bits w x))

-- the number of the group at a place, counted from 0
pub groups_place : (w n : ℕ) (bs : List ℕ) (k : ℕ) → k < n → get_or (groups w n bs) k 0 ≡ number (take w (drop (k * w) bs))
unfolding groups
groups_place w zero bs k h = absurd (omega arith)
groups_place w (suc n) bs zero h = ap (λ (m : ℕ). number (take w (drop m bs))) (sym (zero-mul w))
groups_place w (suc n) bs (suc k) h =
    groups_place w n (drop w bs) k (omega arith)
    ∙ ap (λ (r : List ℕ). number (take w r)) (drop-drop (k * w) w bs ∙ ap (λ (m : ℕ). drop m bs) (omega (arith, suc-mul k w)))

-- a group written behind others
pub after_group : (w at : ℕ) (front o out x : List ℕ) → length front ≡ at → out ≡ front ++ drop at o → put_mid at (at + w - at) out x ≡ (front ++ x) ++ drop (at + w) o
after_group w at front o out x l e =
    let width : at + w - at ≡ w = omega arith in
    let before : take at out ≡ front = ap (take at) e ∙ take_at front (drop at o) at l in
    let behind : drop (at + w - at) (drop at out) ≡ drop (at + w) o =
    ap₂ (λ (n : ℕ) (r : List ℕ). drop n r) width (ap (drop at) e ∙ drop_at front (drop at o) at l) ∙ drop-drop w at o
    in
    ap₂ (λ (a b : List ℕ). a ++ (x ++ b)) before behind ∙ sym (append_assoc front x (drop (at + w) o))

pub group_bits_more : (w : ℕ) (xs : List ℕ) (i : ℕ) → i < length xs → group_bits w (take i xs) ++ bits w (get_or xs i 0) ≡ group_bits w (take (i + 1) xs)
group_bits_more w xs i h = sym (ap (group_bits w) (take_more xs i 0 h) ∙ group_bits_push w (take i xs) (get_or xs i 0))

pub group_bits_none : (w : ℕ) → group_bits w [] ≡ []
unfolding group_bits
group_bits_none w = refl

-- a group of at most 32 bits is a number of at most 32 bits
pub number_fits : (w : ℕ) (bs : List ℕ) → w ≤ 32 → are_bits bs ≡ true → number (take w bs) % 2 ^ 32 ≡ number (take w bs)
number_fits w bs h b =
    let short : length (take w bs) ≤ 32 = omega (arith, length-take w bs) in
    let below : number (take w bs) < 2 ^ length (take w bs) = number_below (take w bs) (bits_take w bs b) in
    let more : 2 ^ length (take w bs) ≤ 2 ^ 32 = pow_mono short in
    mod-eq_of_lt (omega arith)

-- a group of w bits is a number below 2^w
pub groups_below : (w n : ℕ) (bs : List ℕ) → are_bits bs ≡ true → AllByRecursion (λ g. g < 2 ^ w) (groups w n bs)
unfolding groups
groups_below w zero bs b = tt
groups_below w (suc n) bs b =
    let short : length (take w bs) ≤ w = omega (arith, length-take w bs) in
    let below : number (take w bs) < 2 ^ length (take w bs) = number_below (take w bs) (bits_take w bs b) in
    let more : 2 ^ length (take w bs) ≤ 2 ^ w = pow_mono short in
    (omega arith, groups_below w n (drop w bs) (bits_drop w bs b))

-- numbers one after the other
