use Rattle.std.proofs.Common.{◌≡◌, ℕ, ◌+◌, ◌-◌, ◌*◌, ◌≤◌, List, ◌++◌, length, get_or, take, drop, sym, ap, ◌∙◌, ap₂, suc-mul, zero-mul, add-one, arith}
use Rattle.std.proofs.lemmas.List.{length-take-le, length-drop, take_all, drop_all, append-nil}
use Rattle.coding.specs.Bits.{bits, group_bits}
use Rattle.coding.proofs.Groups.{next_group, length_group_bits, after_group, group_bits_more, group_bits_none}
use Rattle.content.proofs.groups.write_groups.Goals as goal

pub loop-i-init : goal.loop-i-init
loop-i-init c =
    ap₂ (λ (f : List ℕ) (n : ℕ). f ++ drop n c.args.out.now) (sym (group_bits_none c.args.width)) (sym (zero-mul c.args.width))

pub loop-i-preserved : goal.loop-i-preserved
loop-i-preserved c =
    let w = c.args.width in
    let i = c.loop-i.i in
    let at = i * w in
    let gs = c.args.groups.now in
    let o = c.args.out.now in
    let out = c.loop-i.out in
    let room : at + w ≤ length out = omega (arith, c.requires, next_group i (length gs) w (omega arith)) in
    let part : length (take (at + w - at) (drop at out)) ≡ w = length-take-le (at + w - at) (drop at out) (omega (arith, length-drop at out)) ∙ omega arith in
    let x : c.write_bits.new.out ≡ bits w (get_or gs i 0) = c.write_bits.ensures ∙ ap (λ (n : ℕ). bits n (get_or gs i 0)) part in
    let front : length (group_bits w (take i gs)) ≡ at = length_group_bits w (take i gs) ∙ ap (λ (n : ℕ). n * w) (length-take-le i gs (omega arith)) in
    let next : at + w ≡ (i + 1) * w = sym (ap (λ (n : ℕ). n * w) (add-one i) ∙ suc-mul i w) ∙ omega arith in
    after_group w at (group_bits w (take i gs)) o out c.write_bits.new.out front c.loop-i.invariant
    ∙ ap (λ (f : List ℕ). f ++ drop (at + w) o) (ap (λ (b : List ℕ). group_bits w (take i gs) ++ b) x ∙ group_bits_more w gs i (omega arith))
    ∙ ap (λ (n : ℕ). group_bits w (take (i + 1) gs) ++ drop n o) next

pub returns : goal.returns
returns c =
    let w = c.args.width in
    let gs = c.args.groups.now in
    let n : c.loop-i.i ≡ length gs = omega arith in
    let all : length c.args.out.now ≤ c.loop-i.i * w = omega (arith, c.requires, ap (λ (i : ℕ). i * w) n) in
    c.loop-i.invariant
    ∙ ap₂ (λ (f b : List ℕ). f ++ b) (ap (group_bits w) (take_all c.loop-i.i gs (omega arith))) (drop_all (c.loop-i.i * w) c.args.out.now all)
    ∙ append-nil (group_bits w gs)
