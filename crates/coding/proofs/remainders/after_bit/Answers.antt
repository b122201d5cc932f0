use Rattle.std.proofs.Common.{◌≡◌, ℕ, zero, suc, ◌*◌, ◌%◌, ◌^◌, ◌<◌, ◌≤◌, ap, ◌∙◌, ap₂, mod-eq_of_lt, pow-suc, pow_mono, arith}
use lib.Bits.{bit_xor}
use Rattle.coding.proofs.Division.{reduced_low, reduced_high}
use Rattle.coding.proofs.remainders.after_bit.Goals as goal

module _ (n d : ℕ) (same : d ≡ n) (fits : n < 64) where
  -- the next power of 2 is at most 2^64
  room : 2 ^ n * 2 ≤ 18446744073709551616
  room = let h : 2 ^ suc n ≤ 2 ^ 64 = pow_mono fits in omega (arith, pow-suc 2 n)

  top_is : 1 * 2 ^ d % 18446744073709551616 ≡ 2 ^ n
  top_is = ap (λ (k : ℕ). 1 * 2 ^ k % 18446744073709551616) same ∙ omega (arith, room)

  moved_is : (r f b : ℕ) → f ≡ b → r < 2 ^ n → b < 2
      → bit_xor (r * 2 % 18446744073709551616) (f * (1 * 2 ^ d % 18446744073709551616) % 18446744073709551616) ≡ bit_xor (r * 2) (b * 2 ^ n)
  moved_is r f b e h hb =
      ap₂ bit_xor (mod-eq_of_lt (omega (arith, room)))
      (ap₂ (λ (x t : ℕ). x * t % 18446744073709551616) e top_is ∙ placed b hb)
    where
      placed : (b : ℕ) → b < 2 → b * 2 ^ n % 18446744073709551616 ≡ b * 2 ^ n
      placed zero h = omega arith
      placed (suc zero) h = omega (arith, room)
      placed (suc (suc b)) h = absurd (omega arith)

pub returns-then-moved-top : goal.returns-then-moved-top
returns-then-moved-top g c = λ h hb.
    let n = g.D.Divisor.DEGREE in
    let e = moved_is n c.DEGREE.result c.DEGREE.ensures g.D.Divisor.fits c.args.rest c.from.result c.args.bit c.from.ensures h hb in
    let t = top_is n c.DEGREE.result c.DEGREE.ensures g.D.Divisor.fits in
    e ∙ reduced_low n g.D.Divisor.TERMS _ (omega (arith, e, t, c.if-moved-top.true))

pub returns-else-moved-top : goal.returns-else-moved-top
returns-else-moved-top g c = λ h hb.
    let n = g.D.Divisor.DEGREE in
    let e = moved_is n c.DEGREE.result c.DEGREE.ensures g.D.Divisor.fits c.args.rest c.from.result c.args.bit c.from.ensures h hb in
    let t = top_is n c.DEGREE.result c.DEGREE.ensures g.D.Divisor.fits in
    ap₂ bit_xor e c.TERMS.ensures ∙ reduced_high n g.D.Divisor.TERMS _ (omega (arith, e, t, c.if-moved-top.false))
