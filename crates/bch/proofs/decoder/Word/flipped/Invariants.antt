use Rattle.std.proofs.Common.{◌≡◌, ◌-◌, true, length, take, drop}
use Rattle.coding.specs.Bits.{are_bits}
use Rattle.field.specs.Field.{exp}
use Rattle.field.specs.Locator.{flipped, is_root}
use Rattle.bch.proofs.decoder.Word.flipped.Given as goal

-- the bits from i on are done, and x is the locator of the place before them
abbrev pub invariant-loop-i : goal.invariant-loop-i
invariant-loop-i l =
    (length l.bits ≡ 111) × (l.x ≡ exp (111 - l.i)) × (are_bits l.bits ≡ true)
    × (drop l.i l.bits ≡ flipped (is_root (take l.locator.errors l.locator.coefficients)) (drop l.i l.self.bits))
