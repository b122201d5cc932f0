use Rattle.std.proofs.Common.{ℕ, List, Ok, Err, sym, ap, ◌∙◌}
use Rattle.std.proofs.lemmas.Result.{err_from_is_err_and}
use Rattle.frame.specs.Judging.{judged_half}
use Rattle.frame.specs.declared.carried.Frame.{Frame}
use Rattle.frame.specs.declared.carried.Half.{Half}
use Rattle.frame.proofs.Reading.{judged_whole, judged_refused, last_half}
use Rattle.frame.proofs.judging.judge.Goals as goal

-- a frame of two halves, whatever octets it has
abbrev framed : ℕ → List ℕ → Half → Half → Frame
framed u d a b = record { unique = u; identifier = d; first = a.content; second = b.content }

pub returns-in_err-second : goal.returns-in_err-second
returns-in_err-second c =
    let w = c.args.bits.now in
    let p = err_from_is_err_and c.from_residual-in_err-second.result c.from_residual-in_err-second.ensures.1 in
    let one = sym c.unique_of.ensures ∙ c.in_ok-unique.was in
    let two = sym c.judge_half.ensures ∙ c.in_ok-first.was in
    let three = ap (judged_half 2) (sym (last_half w c.told-bits)) ∙ sym c.judge_half-2.ensures ∙ c.in_err-second.was in
    p.1 ∙ ap Err p.2 ∙ judged_refused w c.in_ok-unique.unique c.in_ok-first.first one two c.in_err-second.field-0.0 three

pub returns : goal.returns
returns c =
    let w = c.args.bits.now in
    let u = c.in_ok-unique.unique in
    let a = c.in_ok-first.first in
    let b = c.in_ok-second.second in
    let one = sym c.unique_of.ensures ∙ c.in_ok-unique.was in
    let two = sym c.judge_half.ensures ∙ c.in_ok-first.was in
    let three = ap (judged_half 2) (sym (last_half w c.told-bits)) ∙ sym c.judge_half-2.ensures ∙ c.in_ok-second.was in
    ap (λ (d : List ℕ). Ok (framed u d a b)) c.joined.ensures ∙ judged_whole w u a one two b three
