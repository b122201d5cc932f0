use Rattle.std.proofs.Common.{◌≡◌, ℕ, ◌+◌, ◌*◌, ◌%◌, ◌^◌, List, [], ◌∷◌, fold, ◌∙◌, arith, rules}
use Rattle.std.proofs.lemmas.Iterator.{YieldsList-from_slice}
use Rattle.std.proofs.lemmas.Iterator.Consumers.{fold_from_yields_List}
use Rattle.coding.specs.Bits.{number_after}
use Rattle.coding.proofs.values.read_long.Goals as goal

abbrev next : ℕ → ℕ → ℕ
next x b = (x * 2 % 18446744073709551616 + b) % 18446744073709551616

reads : (x y : ℕ) (w : List ℕ) → x ≡ y % 2 ^ 64 → fold next x w ≡ number_after y w % 2 ^ 64
unfolding number_after
reads x y [] e = e
reads x y (b ∷ w) e = reads (next x b) (y * 2 + b) w (omega arith)

pub returns : goal.returns
returns c =
    fold_from_yields_List _ next 0 c.fold.result c.fold.ensures.ran (YieldsList-from_slice c.args.bits.now cc) (λ a x b q k. search rules)
    ∙ reads 0 0 c.args.bits.now (omega arith)
