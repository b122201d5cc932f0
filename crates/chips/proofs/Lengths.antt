-- What is refused of a number of octets.
use Rattle.std.proofs.Common.{◌≡◌, refl}
use Rattle.chips.specs.declared.refusal.BlockRefusal.{BlockRefusal}
use Rattle.chips.specs.declared.refusal.BlockRefusal.TheVariants.{WrongLength}

-- a block has one refusal
pub only_length : (e : BlockRefusal) → e ≡ WrongLength
only_length WrongLength = refl
