-- What every kind of field has: lawful values, the content words of a value, and the value that words would have.
use Rattle.std.specs.Prelude.{◌≡◌, ℕ, Bool, true, cond, ◌&&◌, ◌↔◌, List, Some, None, Option, ◌==◌, ◌≢◌}
use Rattle.coding.specs.Distance.{distance}

pub record Kind (V : Type 0) : Type 0 where
  pub lawful : V → Bool
  pub words : V → List ℕ
  pub value : List ℕ → V

-- taking words apart: the value that they would have, where it is lawful and has these very words
unfoldable pub taken_apart : {V : Type 0} → Kind V → List ℕ → Option V
taken_apart k ws = cond (k.lawful (k.value ws) && distance (k.words (k.value ws)) ws == 0) (Some (k.value ws)) None

-- The one rule of every kind: taking words apart gives the lawful value that has exactly these words, and nothing exactly
-- where there is none.
pub record TakesApart {V : Type 0} (k : Kind V) : Type 0 where
  pub some : (ws : List ℕ) (v : V) → (taken_apart k ws ≡ Some v) ↔ ((k.lawful v ≡ true) × (k.words v ≡ ws))
  pub none : (ws : List ℕ) → (taken_apart k ws ≡ None) ↔ ((v : V) → k.lawful v ≡ true → k.words v ≢ ws)
