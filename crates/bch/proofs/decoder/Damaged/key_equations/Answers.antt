use Rattle.std.proofs.Common.{◌≡◌, ℕ, zero, suc, replicate, ◌+◌, ◌-◌, ◌<◌, ◌≤◌, List, [], ◌++◌, length, get_or, take, drop, sym, refl, ap, ◌∙◌, subst, arith, length-take, length-drop}
use Rattle.bch.specs.Search.{Equation}
use Rattle.std.proofs.lemmas.List.{get_or-take, get_or-drop, get_or-append-add}
use Rattle.std.proofs.Math.ListN.{get_or-append}
use Rattle.bch.proofs.Systems.{set_below}
use Rattle.bch.proofs.decoder.Damaged.key_equations.Goals as goal

-- the equation of a part of the syndromes is one of the syndromes
equation_part : (s part row : List ℕ) (i v w : ℕ) → w ≡ v → ((k : ℕ) → k ≤ v → get_or part k 0 ≡ get_or s (i + k) 0) → Equation part 0 w row → Equation s i v row
equation_part s part row i v w e h E =
    record {
      coefficient = λ j l.
          let m : 0 + (w - suc j) ≡ v - suc j = omega arith in
          E.coefficient j (omega arith) ∙ ap (λ (k : ℕ). get_or part k 0) m ∙ h (v - suc j) (omega arith);
      constant = ap (λ (k : ℕ). get_or row k 0) (sym e) ∙ E.constant ∙ ap (λ (k : ℕ). get_or part k 0) (let m : 0 + w ≡ v = omega arith in m) ∙ h v (omega arith);
    }

-- the rows before any is there
abbrev none : List (List ℕ)
none = replicate 6 (replicate 7 0)

zero_at : (n k : ℕ) → let row : List ℕ = replicate n 0 in get_or row k 0 ≡ 0
zero_at zero k = refl
zero_at (suc n) zero = refl
zero_at (suc n) (suc k) = zero_at n k

none_zero : (n j k : ℕ) → let row : List ℕ = replicate 7 0 in get_or (get_or (replicate n row) j []) k 0 ≡ 0
none_zero zero j k = refl
none_zero (suc n) zero k = zero_at 7 k
none_zero (suc n) (suc j) k = none_zero n j k

behind : (rows : List (List ℕ)) (v i k : ℕ) → length rows ≡ v → v ≤ i → get_or (get_or (rows ++ drop v none) i []) k 0 ≡ 0
behind rows v i k l h =
    let n : i ≡ length rows + (i - v) = omega arith in
    ap (λ (j : ℕ). get_or (get_or (rows ++ drop v none) j []) k 0) n
    ∙ ap (λ (r : List ℕ). get_or r k 0) (get_or-append-add rows (drop v none) (i - v) [] ∙ get_or-drop v none (i - v) [])
    ∙ none_zero 6 (v + (i - v)) k

pub loop-i-init : goal.loop-i-init
loop-i-init c = λ k h. absurd (omega arith)

pub loop-i-preserved : goal.loop-i-preserved
loop-i-preserved c =
    let i = c.loop-i.i in
    let s = c.args.self.now.syndromes in
    let v = c.args.v in
    let part : List ℕ = take (i + v + 1 - i) (drop i s) in
    let inside : i < v = omega (arith, length-take v none) in
    let long : length part - 1 ≡ v = simp (length-take, length-drop) (omega arith) in
    set_below [] (λ k r. Equation s k v r) c.loop-i.row-items i c.key_equation.result (omega arith) c.loop-i.invariant
    (equation_part s part c.key_equation.result i v _ long
    (λ k l. get_or-take (i + v + 1 - i) (drop i s) k 0 (omega arith) ∙ get_or-drop i s k 0) c.key_equation.ensures)

pub returns : goal.returns
returns c =
    let rows = c.loop-i.row-items in
    let s = c.args.self.now.syndromes in
    let v = c.args.v in
    let long : length rows ≡ v = omega (arith, length-take v none) in
    record {
      is = λ i h. subst (Equation s i v) (sym (get_or-append rows (drop v none) [] i (omega arith))) (c.loop-i.invariant i (omega (arith, length-take v none)));
      rest = λ i h k. behind rows v i k long h;
    }
