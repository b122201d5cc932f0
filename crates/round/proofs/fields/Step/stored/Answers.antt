use Rattle.std.proofs.Common.{◌≡◌, rules, Some, Option, IfSome, sym, ap, ◌∙◌, refl, subst}
use Rattle.std.specs.Result.{result_ok}
use Rattle.round.proofs.fields.Step.stored.Goals as goal

-- what holds of the value that an option has
if_some : {X : Type 0} (P : X → Type 0) (o : Option X) (v : X) → o ≡ Some v → P v → IfSome o P
if_some P o v e p = subst (λ o. IfSome o P) (sym e) p

pub returns-in_err-ok_or-2-clause-some : goal.returns-in_err-ok_or-2-clause-some
returns-in_err-ok_or-2-clause-some g c =
    if_some _ c.args.field c.in_ok-ok_or.field-0 (c.ok_or.ensures.ok_part ∙ ap result_ok c.in_ok-ok_or.was)
    (_, c.enter.result, _, c.enter.ensures, refl, search rules)

pub returns-clause-some : goal.returns-clause-some
returns-clause-some g c =
    if_some _ c.args.field c.in_ok-ok_or.field-0 (c.ok_or.ensures.ok_part ∙ ap result_ok c.in_ok-ok_or.was)
    (_, c.enter.result, _, c.enter.ensures, refl, search rules)
