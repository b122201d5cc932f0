use Rattle.std.proofs.Common.{◌≡◌, ℕ, Bool, true, false, ◌&&◌, ltb, List, [], ◌∷◌, fold, refl, ◌∙◌, rules}
use Rattle.std.proofs.lemmas.Iterator.{YieldsList-from_slice}
use Rattle.std.proofs.lemmas.Iterator.Consumers.{fold_from_yields_List}
use Rattle.coding.specs.Bits.{are_bits}
use Rattle.coding.proofs.bits.is_block_of_bits.Goals as goal

-- one octet more
abbrev and_bit : Bool → ℕ → Bool
and_bit all b = all && ltb b 2

from_false : (w : List ℕ) → fold and_bit false w ≡ false
from_false [] = refl
from_false (b ∷ w) = from_false w

all : (w : List ℕ) → fold and_bit true w ≡ are_bits w
all [] = refl
all (b ∷ w) = by (ltb b 2) (all w)
  where
    by : (t : Bool) → fold and_bit true w ≡ are_bits w → fold and_bit t w ≡ (t && are_bits w)
    by true h = h
    by false h = from_false w

pub returns : goal.returns
returns c =
    fold_from_yields_List _ and_bit true c.fold.result c.fold.ensures.ran (YieldsList-from_slice c.args.block.now cc) (λ a x b q k. search rules)
    ∙ all c.args.block.now
