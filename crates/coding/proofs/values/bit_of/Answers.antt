use Rattle.std.proofs.Common.{ℕ, ◌%◌, ◌^◌, ◌<◌, ◌≤◌, sym, ap, arith, pow_mono}
use native.Mathlib.Nat.{div-eq_of_lt}
use Rattle.coding.proofs.values.bit_of.Goals as goal

pub returns-else-power-lt64 : goal.returns-else-power-lt64
returns-else-power-lt64 c =
    let high : 64 ≤ c.args.power = omega arith in
    let more : 2 ^ 64 ≤ 2 ^ c.args.power = pow_mono high in
    let small : c.args.value < 2 ^ c.args.power = omega arith in
    sym (ap (λ (q : ℕ). q % 2) (div-eq_of_lt small))
