-- The codeword within six places of a word, by search through all words within six places and not by any decoder. Nothing
-- ever evaluates it; its laws say what it answers.
use Rattle.std.specs.Prelude.{◌≡◌, ℕ, zero, suc, ◌-◌, ◌≤◌, Bool, cond, ◌↔◌, List, [], ◌∷◌, ◌++◌, map, take, Some, None, Option, ◌==◌}
use Rattle.coding.specs.Distance.{distance}
use Rattle.field.specs.Code.{encode, Codeword}

-- the words of bits within k places of w: each bit is kept, or flipped and one place spent
unfoldable pub ball : ℕ → List ℕ → List (List ℕ)
ball k [] = [] ∷ []
ball zero (b ∷ w) = map (λ c. b ∷ c) (ball zero w)
ball (suc k) (b ∷ w) = map (λ c. b ∷ c) (ball (suc k) w) ++ map (λ c. (1 - b) ∷ c) (ball k w)

-- whether a word is the encoding of its first 69 bits
unfoldable pub re_encodes : List ℕ → Bool
re_encodes c = distance c (encode (take 69 c)) == 0

-- the first of some words that passes a test
unfoldable pub first : (List ℕ → Bool) → List (List ℕ) → Option (List ℕ)
first p [] = None
first p (w ∷ ws) = cond (p w) (Some w) (first p ws)

-- the codeword within six places
unfoldable pub nearest : List ℕ → Option (List ℕ)
nearest w = first re_encodes (ball 6 w)

-- c is a codeword within six places of w
pub record Near (w c : List ℕ) : Type 0 where
  pub code : Codeword c
  pub near : distance w c ≤ 6

-- The search answers c exactly where c is a codeword within six places, and nothing exactly where there is none. So there
-- is never more than one.
pub record Finds (w : List ℕ) : Type 0 where
  pub some : (c : List ℕ) → (nearest w ≡ Some c) ↔ Near w c
  pub none : (nearest w ≡ None) ↔ ((c : List ℕ) → Near w c → ⊥)
