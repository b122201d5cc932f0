use Rattle.std.proofs.Common.{◌≡◌, ℕ, suc, ◌<◌, List, [], ◌∷◌, ◌++◌, get_or, sym, ap, ◌∙◌, arith, rules, fold, append_assoc, append-nil}
use lib.Bits.{bit_xor, xor_zero_r}
use Rattle.field.proofs.Elements.{mul_one}
use Rattle.field.specs.Field.{power, value, mul}
use Rattle.std.proofs.lemmas.Iterator.{YieldsList-from_slice}
use Rattle.std.proofs.lemmas.Iterator.Consumers.{fold_from_yields_List}
use Rattle.field.proofs.Roots.{value_push}
use Rattle.bch.proofs.decoder.value_at.Goals as goal

-- one more coefficient
abbrev more : ℕ → ℕ → ℕ → ℕ
more x s a = bit_xor (mul x s) a

horner : (x : ℕ) (ls rest : List ℕ) → x < 128 → ((k : ℕ) → get_or rest k 0 < 128) → fold (more x) (value x ls) rest ≡ value x (ls ++ rest)
horner x ls [] h hs = sym (ap (value x) (append-nil ls))
horner x ls (a ∷ rest) h hs =
    ap (λ (s : ℕ). fold (more x) s rest) (sym (value_push x ls a h (hs 0)))
    ∙ horner x (ls ++ (a ∷ [])) rest h (λ k. hs (suc k)) ∙ ap (value x) (append_assoc ls (a ∷ []) rest)

alone : (x a : ℕ) → a < 2 → a ≡ value x (a ∷ [])
unfolding value power
alone x a h = sym (xor_zero_r (mul a 1) ∙ mul_one a (omega arith))

pub returns : goal.returns
returns c =
    let x = c.args.x in
    let a = c.args.first in
    fold_from_yields_List _ (more x) a c.fold.result c.fold.ensures.ran (YieldsList-from_slice c.args.others.now cc) (λ a x b q k. search rules)
    ∙ ap (λ (s : ℕ). fold (more x) s c.args.others.now) (alone x a c.requires.first)
    ∙ horner x (a ∷ []) c.args.others.now c.requires.x c.requires.others
