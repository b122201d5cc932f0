use Rattle.std.proofs.Common.{ℕ, Err, sym, ap, ◌∙◌}
use Rattle.card.specs.Fields.{is_printing}
use Rattle.card.specs.declared.refusal.CardRefusal.TheVariants.{MessageOctet}
use Rattle.card.proofs.Scans.{stopped, scanned}
use Rattle.card.proofs.checking.check_octets.Goals as goal

pub returns-in-None : goal.returns-in-None
returns-in-None c = ap (stopped MessageOctet) (sym c.in-None.is ∙ c.first_unprinted.ensures) ∙ scanned MessageOctet is_printing c.args.octets.now

pub returns-in-Some : goal.returns-in-Some
returns-in-Some c =
    ap (λ (n : ℕ). Err (MessageOctet n)) c.place_at.ensures
    ∙ ap (stopped MessageOctet) (sym c.in-Some.is ∙ c.first_unprinted.ensures) ∙ scanned MessageOctet is_printing c.args.octets.now
