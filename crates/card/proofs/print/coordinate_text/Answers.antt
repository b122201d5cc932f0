use Rattle.std.proofs.Common.{◌≡◌, ℕ, zero, suc, ◌-◌, ◌≤◌, [], length, take, drop, get_or, cond, eqb, refl, length-append, arith, rules, append_assoc}
use Rattle.buffers.proofs.Appending.{appended_appended, appended_whole}
use Rattle.card.specs.Print.{decimals, coordinate_text}
use Rattle.card.proofs.print.coordinate_text.Goals as goal
use Rattle.card.proofs.print.coordinate_text.Goals.{then-p-eq0, else-p-eq0}

last_digits : (n x : ℕ) → n ≤ 3 → take (3 - (3 - n)) (drop (3 - n) (decimals 3 x)) ≡ decimals n x
last_digits zero x h = refl
last_digits (suc zero) x h = refl
last_digits (suc (suc zero)) x h = refl
last_digits (suc (suc (suc zero))) x h = refl
last_digits (suc (suc (suc (suc n)))) x h = absurd (omega (arith, h))

length_decimals : (n x : ℕ) → length (decimals n x) ≡ n
length_decimals zero x = refl
length_decimals (suc n) x = omega (arith, length_decimals n x)

pub returns : goal.returns
returns c =
    let p = c.args.p in
    let n = c.args.digits in
    let a = get_or c.args.letters 0 0 in
    let b = get_or c.args.letters 1 0 in
    let letter : c.if-p-eq0.letter ≡ cond (eqb p.hemisphere 0) a b = elim c.if-p-eq0.branch [
      | then-p-eq0 w ↦ search rules
      | else-p-eq0 w ↦ search rules
    ] in
    let short : length (coordinate_text n a b p) ≤ 10 = grind (arith, c.requires, length_decimals, length-append) in
    simp (
      c.extend-3.ensures,
      letter,
      c.extend-2.ensures,
      c.minutes.ensures,
      c.extend.ensures,
      c.new-text.ensures,
      c.decimal.ensures,
      c.decimal-2.ensures,
      c.decimal-3.ensures,
      c.from-degrees.ensures,
      last_digits n p.degrees c.requires,
      appended_appended,
      append_assoc,
    ) (appended_whole 10 [] (coordinate_text n a b p) short)
