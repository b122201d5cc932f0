-- Numbers of up to three groups.
use Rattle.std.proofs.Common.{ℕ, zero, suc, ◌+◌, ◌-◌, ◌*◌, ◌^◌, ◌<◌, arith}

pub one_group : (x g : ℕ) → 0 < g → g < 4 → x < 128 → x < 2 ^ (7 * g)
one_group x zero p l h = absurd (omega (arith, p))
one_group x (suc zero) p l h = h
one_group x (suc (suc zero)) p l h = omega (arith, h)
one_group x (suc (suc (suc zero))) p l h = omega (arith, h)
one_group x (suc (suc (suc (suc n)))) p l h = absurd (omega (arith, l))

pub group_above : (o x g : ℕ) → 0 < g → g < 4 → o < 128 → x < 2 ^ (7 * (g - 1)) → o + 128 * x < 2 ^ (7 * g)
group_above o x zero p l h k = absurd (omega (arith, p))
group_above o x (suc zero) p l h k = omega (arith, h, k)
group_above o x (suc (suc zero)) p l h k = omega (arith, h, k)
group_above o x (suc (suc (suc zero))) p l h k = omega (arith, h, k)
group_above o x (suc (suc (suc (suc n)))) p l h k = absurd (omega (arith, l))
