-- What follows from the definitions and the rules, in the words of their users.
use Rattle.std.specs.Prelude.{◌≡◌, ℕ, ◌+◌, ◌<◌, ◌≤◌, true, not, ◌⊎◌, List, [], ◌∷◌, Decides, ◌≢◌}
use Rattle.coding.specs.Bits.{plus, bits}
use Rattle.line.specs.Line.{Model, Word, LineRules}
use Rattle.line.specs.Calls.{fits}
use Rattle.line.specs.Stages.{listed, sequence}
use Rattle.line.specs.Lines.{standard, bench}

-- undamaged line bits give the word
abbrev pub Undamaged : Type 0
Undamaged = (m : Model) → LineRules m → (n : ℕ) (w : List ℕ) (last : ℕ) → m.takes n ≡ true → Word n w → last < 2 →
    m.decode (m.encode w last) ≡ w

-- a word of at least one bit has at least one line bit
abbrev pub SomeLineBit : Type 0
SomeLineBit = (m : Model) → LineRules m → (n : ℕ) → m.takes n ≡ true → 1 ≤ n → 1 ≤ m.line_length n

-- no length that is taken has the line length l
abbrev pub NoLength : Model → ℕ → Type 0
NoLength m l = (n : ℕ) → m.takes n ≡ true → m.line_length n ≢ l

-- one has it, and it is not r
abbrev pub OtherLength : Model → ℕ → ℕ → Type 0
OtherLength m l r = (n : ℕ) × (m.takes n ≡ true) × (m.line_length n ≡ l) × (r ≢ n)

-- decode refuses l line bits and an output of r places for their lengths exactly if no word has l line bits or the words that
-- have are not r long
abbrev pub DecodeLengths : Type 0
DecodeLengths = (m : Model) → LineRules m → (l r : ℕ) → Decides (not (fits m r l)) (NoLength m l ⊎ OtherLength m l r)

-- the scrambling sequence by its recurrence, and its first sixteen bits
pub record ScramblingSequence : Type 0 where
  pub start : listed sequence 9 ≡ 0 ∷ 0 ∷ 1 ∷ 0 ∷ 0 ∷ 0 ∷ 0 ∷ 0 ∷ 1 ∷ []
  pub step : (n : ℕ) → sequence (n + 9) ≡ plus (sequence n) (sequence (n + 4))
  pub begins : listed (λ n. sequence (n + 9)) 16 ≡ bits 16 0x29DA

-- the two lines at a frame's 244 bits: how many line bits they make of it, and the most line errors that cause at most six
-- errors in it, and one more
pub record Figures : Type 0 where
  pub standard_takes : standard.takes 244 ≡ true
  pub standard_length : standard.line_length 244 ≡ 977
  pub standard_six : standard.growth 6 ≡ 6
  pub standard_seven : standard.growth 7 ≡ 7
  pub bench_takes : bench.takes 244 ≡ true
  pub bench_length : bench.line_length 244 ≡ 976
  pub bench_six : bench.growth 13 ≡ 6
  pub bench_seven : bench.growth 14 ≡ 7
