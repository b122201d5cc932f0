-- The words within k places of a word: each of them is in the ball, and nothing else.
use Rattle.std.proofs.Common.{◌≡◌, ℕ, zero, suc, ◌-◌, ◌<◌, ◌≤◌, Bool, true, false, eqb, ◌⊎◌, List, [], ◌∷◌, ◌++◌, map, length, sym, refl, ap, ◌∙◌, subst, inl, inr, ⊎_elim, arith}
use Rattle.std.proofs.lemmas.Bool.{eqb-true, eqb-false}
use Rattle.coding.specs.Bits.{are_bits}
use Rattle.coding.specs.Distance.{distance}
use Rattle.coding.proofs.Words.{bits_parts, bits_join}
use Rattle.coding.proofs.Distances.{distance_none, distance_same, distance_other, distance_step}
use Rattle.bch.specs.Nearest.{ball}

-- ---- lists of words
abbrev pub All : (List ℕ → Type 0) → List (List ℕ) → Type 0
All P [] = Unit {0}
All P (x ∷ xs) = P x × All P xs

abbrev pub In : List ℕ → List (List ℕ) → Type 0
In c [] = ⊥
In c (w ∷ ws) = (c ≡ w) ⊎ In c ws

all_append : (P : List ℕ → Type 0) (xs ys : List (List ℕ)) → All P xs → All P ys → All P (xs ++ ys)
all_append P [] ys h g = g
all_append P (x ∷ xs) ys h g = (h.0, all_append P xs ys h.1 g)

all_map : (P Q : List ℕ → Type 0) (f : List ℕ → List ℕ) (xs : List (List ℕ)) → ((c : List ℕ) → P c → Q (f c)) → All P xs → All Q (map f xs)
all_map P Q f [] k h = tt
all_map P Q f (x ∷ xs) k h = (k x h.0, all_map P Q f xs k h.1)

in_left : (c : List ℕ) (xs ys : List (List ℕ)) → In c xs → In c (xs ++ ys)
in_left c [] ys h = absurd h
in_left c (x ∷ xs) ys h = ⊎_elim (λ e. inl e) (λ i. inr (in_left c xs ys i)) h

in_right : (c : List ℕ) (xs ys : List (List ℕ)) → In c ys → In c (xs ++ ys)
in_right c [] ys h = h
in_right c (x ∷ xs) ys h = inr (in_right c xs ys h)

in_map : (f : List ℕ → List ℕ) (c : List ℕ) (xs : List (List ℕ)) → In c xs → In (f c) (map f xs)
in_map f c [] h = absurd h
in_map f c (x ∷ xs) h = ⊎_elim (λ e. inl (ap f e)) (λ i. inr (in_map f c xs i)) h

-- ---- what is in the ball
-- a word of bits as long, within k places
pub record Inside (k : ℕ) (w c : List ℕ) : Type 0 where
  pub long : length c ≡ length w
  pub bit : are_bits c ≡ true
  pub near : distance w c ≤ k

kept : (k b : ℕ) (w c : List ℕ) → b < 2 → Inside k w c → Inside k (b ∷ w) (b ∷ c)
kept k b w c h i = record { long = ap suc i.long; bit = bits_join b c h i.bit; near = omega (arith, distance_same b w c, i.near) }

turned : (k b : ℕ) (w c : List ℕ) → b < 2 → Inside k w c → Inside (suc k) (b ∷ w) ((1 - b) ∷ c)
turned k b w c h i =
    record {
      long = ap suc i.long;
      bit = bits_join (1 - b) c (omega arith) i.bit;
      near = omega (arith, distance_step b (1 - b) w c, i.near);
    }

pub ball_inside : (k : ℕ) (w : List ℕ) → are_bits w ≡ true → All (Inside k w) (ball k w)
unfolding ball
ball_inside k [] h = (record { long = refl; bit = refl; near = omega (arith, distance_none []) }, tt)
ball_inside zero (b ∷ w) h =
    let p = bits_parts b w h in
    all_map (Inside zero w) (Inside zero (b ∷ w)) (λ c. b ∷ c) (ball zero w) (λ c i. kept zero b w c p.0 i) (ball_inside zero w p.1)
ball_inside (suc k) (b ∷ w) h =
    let p = bits_parts b w h in
    all_append (Inside (suc k) (b ∷ w)) (map (λ c. b ∷ c) (ball (suc k) w)) (map (λ c. (1 - b) ∷ c) (ball k w))
    (all_map (Inside (suc k) w) (Inside (suc k) (b ∷ w)) (λ c. b ∷ c) (ball (suc k) w) (λ c i. kept (suc k) b w c p.0 i)
    (ball_inside (suc k) w p.1))
    (all_map (Inside k w) (Inside (suc k) (b ∷ w)) (λ c. (1 - b) ∷ c) (ball k w) (λ c i. turned k b w c p.0 i) (ball_inside k w p.1))

-- ---- what is within k places is in the ball
first_kept : (b y : ℕ) (c : List ℕ) (ws : List (List ℕ)) → y ≡ b → In c ws → In (y ∷ c) (map (λ d. b ∷ d) ws)
first_kept b y c ws e i = subst (λ (z : ℕ). In (z ∷ c) (map (λ d. b ∷ d) ws)) (sym e) (in_map (λ d. b ∷ d) c ws i)

first_turned : (b y : ℕ) (c : List ℕ) (ws : List (List ℕ)) → b < 2 → y < 2 → (b ≡ y → ⊥) → In c ws → In (y ∷ c) (map (λ d. (1 - b) ∷ d) ws)
first_turned b y c ws hb hy n i =
    let e : y ≡ 1 - b = omega arith in
    subst (λ (z : ℕ). In (z ∷ c) (map (λ d. (1 - b) ∷ d) ws)) (sym e) (in_map (λ d. (1 - b) ∷ d) c ws i)

-- equal first bits spend no place
same_first : (b y : ℕ) (w c : List ℕ) → b ≡ y → distance (b ∷ w) (y ∷ c) ≡ distance w c
same_first b y w c s = ap (λ (z : ℕ). distance (b ∷ w) (z ∷ c)) (sym s) ∙ distance_same b w c

no_place_left : (t : Bool) (b y : ℕ) (w c : List ℕ) → eqb b y ≡ t → distance (b ∷ w) (y ∷ c) ≤ 0 → (distance w c ≤ 0 → In c (ball 0 w))
    → In (y ∷ c) (map (λ d. b ∷ d) (ball 0 w))
no_place_left true b y w c e d i =
    let s : b ≡ y = eqb-true b y e in
    first_kept b y c (ball 0 w) (sym s) (i (omega (arith, same_first b y w c s)))
no_place_left false b y w c e d i = absurd (omega (arith, distance_other b y w c (eqb-false b y e)))

places_left : (t : Bool) (k b y : ℕ) (w c : List ℕ) → b < 2 → y < 2 → eqb b y ≡ t → distance (b ∷ w) (y ∷ c) ≤ suc k
    → (distance w c ≤ suc k → In c (ball (suc k) w)) → (distance w c ≤ k → In c (ball k w))
    → In (y ∷ c) (map (λ d. b ∷ d) (ball (suc k) w) ++ map (λ d. (1 - b) ∷ d) (ball k w))
places_left true k b y w c hb hy e d i j =
    let s : b ≡ y = eqb-true b y e in
    in_left (y ∷ c) (map (λ d. b ∷ d) (ball (suc k) w)) (map (λ d. (1 - b) ∷ d) (ball k w))
    (first_kept b y c (ball (suc k) w) (sym s) (i (omega (arith, same_first b y w c s))))
places_left false k b y w c hb hy e d i j =
    let n : b ≡ y → ⊥ = eqb-false b y e in
    in_right (y ∷ c) (map (λ d. b ∷ d) (ball (suc k) w)) (map (λ d. (1 - b) ∷ d) (ball k w))
    (first_turned b y c (ball k w) hb hy n (j (omega (arith, distance_other b y w c n))))

pub in_ball : (k : ℕ) (w c : List ℕ) → are_bits w ≡ true → are_bits c ≡ true → length c ≡ length w → distance w c ≤ k → In c (ball k w)
unfolding ball
in_ball k [] [] hw hc l d = inl refl
in_ball k [] (y ∷ c) hw hc l d = absurd (omega arith)
in_ball k (b ∷ w) [] hw hc l d = absurd (omega arith)
in_ball zero (b ∷ w) (y ∷ c) hw hc l d =
    no_place_left (eqb b y) b y w c refl d (λ e. in_ball zero w c (bits_parts b w hw).1 (bits_parts y c hc).1 (omega arith) e)
in_ball (suc k) (b ∷ w) (y ∷ c) hw hc l d =
    let p = bits_parts b w hw in
    let q = bits_parts y c hc in
    places_left (eqb b y) k b y w c p.0 q.0 refl d (λ e. in_ball (suc k) w c p.1 q.1 (omega arith) e)
    (λ e. in_ball k w c p.1 q.1 (omega arith) e)
