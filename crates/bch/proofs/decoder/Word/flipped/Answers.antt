use Rattle.std.proofs.Common.{◌-◌, take, replicate, refl, ◌∙◌, arith, length-set}
use Rattle.coding.proofs.Words.{bit_at, bits_set}
use Rattle.field.specs.Locator.{is_root}
use Rattle.bch.proofs.Systems.{power_first, power_below, flipped_none, flipped_more, place_more}
use Rattle.bch.proofs.decoder.Word.flipped.Goals as goal

pub loop-i-init : goal.loop-i-init
loop-i-init c =
    let l = c.args.locator.now in
    (refl, power_first, refl, flipped_none (is_root (take l.errors l.coefficients)) c.args.self.now.bits (replicate 111 0) (omega arith) refl)

pub value_at-requires : goal.value_at-requires
value_at-requires c = power_below c.loop-i.x (111 - c.loop-i.i) c.loop-i.invariant.1

pub flipped_if_root-requires : goal.flipped_if_root-requires
flipped_if_root-requires c = bit_at c.args.self.now.bits c.args.self.now.are_bits (c.loop-i.i - 1)

pub loop-i-preserved : goal.loop-i-preserved
loop-i-preserved c =
    let i = c.loop-i.i in
    let out = c.loop-i.bits in
    let t = c.flipped_if_root.result in
    let l = c.args.locator.now in (
      length-set out (i - 1) t ∙ c.loop-i.invariant.0,
      place_more i c.loop-i.x c.times_c-x.result (omega arith) (omega arith) c.loop-i.invariant.1 c.times_c-x.ensures.is,
      bits_set out (i - 1) t c.loop-i.invariant.2 c.flipped_if_root.ensures.bit,
      flipped_more (take l.errors l.coefficients) c.args.self.now.bits out i c.loop-i.x c.value_at.result t (omega arith) (omega arith) (omega arith)
          c.loop-i.invariant.0 c.loop-i.invariant.1 c.value_at.ensures c.flipped_if_root.ensures.is c.loop-i.invariant.3,
    )
