-- What is known after a line accepted a word, and what damage then does.
use Rattle.std.proofs.Common.{◌≡◌, ℕ, ◌<◌, ◌≤◌, true, List, length, Ok, Result, sym, refl, ◌∙◌, subst, le_trans}
use Rattle.coding.specs.Bits.{are_bits}
use Rattle.coding.specs.Distance.{distance}
use Rattle.line.specs.declared.refusal.LineRefusal.{LineRefusal}
use Rattle.line.specs.Line.{Model, Word, LineRules}
use Rattle.line.specs.Calls.{encode_answer, encode_output}
use Rattle.line.proofs.Answers.{Encodes, encodes}

-- Encode of w into an output that held o answered Ok, and left y.
module _ (m : Model) (rules : LineRules m) (w : List ℕ) (last : ℕ) (o y : List ℕ) (r : Result (Unit {0}) LineRefusal)
    (answer : r ≡ encode_answer m w last o) (ok : r ≡ Ok tt) (output : y ≡ encode_output m w last o) where
  accepted : Encodes m w last o
  accepted = encodes m w last o (sym ok ∙ answer)

  pub word : Word (length w) w
  word = (refl, accepted.are_bits)

  pub taken : m.takes (length w) ≡ true
  taken = accepted.taken

  pub last_bit : last < 2
  last_bit = accepted.last_bit

  pub encoded : y ≡ m.encode w last
  encoded = output ∙ accepted.output

  pub line : Word (m.line_length (length w)) y
  line = subst (Word (m.line_length (length w))) (sym encoded) (rules.encodes (length w) w last taken word last_bit)

  -- line bits that differ from those sent in at most k places
  pub damaged : (x : List ℕ) (k : ℕ) → length x ≡ length y → are_bits x ≡ true → distance x y ≤ k →
      distance (m.decode x) w ≤ m.growth k
  damaged x k l hx d =
      le_trans (rules.near (length w) w last x taken word last_bit (l ∙ line.0, hx))
      (rules.rising _ _ (subst (λ (z : List ℕ). distance x z ≤ k) encoded d))
