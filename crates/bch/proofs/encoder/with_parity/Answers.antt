use Rattle.std.proofs.Common.{◌≡◌, ℕ, List, ◌++◌, length, drop, replicate, sym, ap, ◌∙◌, ap₂, append-nil, refl, take_at, drop_at, arith}
use Rattle.std.proofs.lemmas.List.{drop_all}
use borrow.Rule.Slice.PartMut.{put_mid}
use Rattle.coding.specs.Bits.{bits}
use Rattle.coding.proofs.Words.{length_bits}
use Rattle.bch.proofs.encoder.with_parity.Goals as goal

joined : (d s z x : List ℕ) → length s ≡ 69 → length z ≡ 42 → s ≡ d → put_mid 69 42 (s ++ z) x ≡ d ++ x
joined d s z x l m e =
    ap₂ (λ (a b : List ℕ). a ++ (x ++ b)) (take_at s z 69 l ∙ e) (ap (drop 42) (drop_at s z 69 l) ∙ drop_all 42 z (omega arith))
    ∙ ap (λ (q : List ℕ). d ++ q) (append-nil x)

-- the bits of p, as many as there is room for
filled : (out : List ℕ) (n m p : ℕ) → out ≡ bits n p → length out ≡ m → out ≡ bits m p
filled out n m p e l = e ∙ ap (λ (k : ℕ). bits k p) (sym (length_bits n p) ∙ sym (ap length e) ∙ l)

pub returns : goal.returns
returns c =
    let d = c.args.«data».now in
    joined d c.copy_from_slice.new.self (replicate 42 0) c.write_long.new.out (omega arith) refl c.copy_from_slice.ensures.after
    ∙ ap (λ (q : List ℕ). d ++ q) (filled c.write_long.new.out _ 42 c.args.parity c.write_long.ensures (omega arith))
