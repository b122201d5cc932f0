-- A line turns words of bits into line bits and back. What a line is, and the rules that every line keeps.
use Rattle.std.specs.Prelude.{◌≡◌, ℕ, ◌<◌, ◌≤◌, Bool, true, List, length}
use Rattle.coding.specs.Bits.{are_bits}
use Rattle.coding.specs.Distance.{distance}

-- A line by its meaning: the lengths of words that it takes, the number of line bits that it makes of such a word, the line
-- bits of a word after a last bit, the word that line bits give, and the most errors in a word that k errors in its line bits
-- can cause.
pub record Model : Type 0 where
  pub takes : ℕ → Bool
  pub line_length : ℕ → ℕ
  pub encode : List ℕ → ℕ → List ℕ
  pub decode : List ℕ → List ℕ
  pub growth : ℕ → ℕ

-- a list is a word of n bits
abbrev pub Word : ℕ → List ℕ → Type 0
Word n w = (length w ≡ n) × (are_bits w ≡ true)

pub record LineRules (m : Model) : Type 0 where
  -- a longer word has more line bits
  pub longer : (a b : ℕ) → m.takes a ≡ true → m.takes b ≡ true → a < b → m.line_length a < m.line_length b
  -- no word and no line bits are longer than 4,096
  pub short : (n : ℕ) → m.takes n ≡ true → (n ≤ 4096) × (m.line_length n ≤ 4096)
  -- encode makes line bits of a word, and decode a word of line bits
  pub encodes : (n : ℕ) (w : List ℕ) (last : ℕ) → m.takes n ≡ true → Word n w → last < 2 →
      Word (m.line_length n) (m.encode w last)
  pub decodes : (n : ℕ) (x : List ℕ) → m.takes n ≡ true → Word (m.line_length n) x → Word n (m.decode x)
  -- no errors cause none, and more errors cause no fewer
  pub none : m.growth 0 ≡ 0
  pub rising : (j k : ℕ) → j ≤ k → m.growth j ≤ m.growth k
  -- line bits in whatever state give a word as near to the one encoded as the growth says
  pub near : (n : ℕ) (w : List ℕ) (last : ℕ) (x : List ℕ) → m.takes n ≡ true → Word n w → last < 2 → Word (m.line_length n) x →
      distance (m.decode x) w ≤ m.growth (distance x (m.encode w last))
