use Rattle.std.proofs.Common.{◌≡◌, ◌+◌, ◌-◌, ◌<◌, ℕ, suc, length, get_or, ap, ◌∙◌, arith, rules, tests}
use Rattle.bch.proofs.decoder.key_equation.Goals as goal

pub returns : goal.returns
returns c =
    let s = c.args.syndromes.now in
    let v : ℕ = length s - 1 in
    record {
      coefficient = λ j l.
          let h : j < 7 = omega arith in
          let u = c.from_fn.ensures.items.at j 0 h in
          let e : v - 1 - j ≡ 0 + (v - suc j) = omega arith in
          let r : get_or c.from_fn.result j 0 ≡ get_or s (v - 1 - j) 0 = search (rules, tests) in
          r ∙ ap (λ (k : ℕ). get_or s k 0) e;
      constant =
          let h : v < 7 = omega arith in
          let u = c.from_fn.ensures.items.at v 0 h in
          let e : v ≡ 0 + v = omega arith in
          let r : get_or c.from_fn.result v 0 ≡ get_or s v 0 = search (rules, tests) in
          r ∙ ap (λ (k : ℕ). get_or s k 0) e;
    }
