use Rattle.std.proofs.Common.{◌≡◌, ◌%◌, length, sym, ◌∙◌, arith}
use Rattle.std.proofs.lemmas.List.{length-take-le}
use Rattle.std.proofs.lemmas.Bool.{cond-true, cond-false, eq-eqb, ne_eqb}
use Rattle.content.specs.Entries.{entries_of}
use Rattle.content.proofs.entry.Sequence.even.Goals as goal

pub returns-then-self-eq1 : goal.returns-then-self-eq1
returns-then-self-eq1 c =
    let s = c.args.self.now in
    let l : length (entries_of s) ≡ s.len = length-take-le s.len s.entries (omega (arith, s.room, s.within)) in
    let odd : length (entries_of s) % 2 ≡ 1 = omega (arith, l) in
    c.push.ensures.entries ∙ sym (cond-true _ _ _ (eq-eqb (length (entries_of s) % 2) 1 odd))

pub returns-else-self-eq1 : goal.returns-else-self-eq1
returns-else-self-eq1 c =
    let s = c.args.self.now in
    let l : length (entries_of s) ≡ s.len = length-take-le s.len s.entries (omega (arith, s.room, s.within)) in
    let even : length (entries_of s) % 2 ≡ 1 → ⊥ = λ h. c.if-self-eq1.false (omega (arith, l, h)) in
    sym (cond-false _ _ _ (ne_eqb (length (entries_of s) % 2) 1 even))
