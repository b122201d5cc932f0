use Rattle.std.proofs.Common.{◌≡◌, Some, sym, ap, ◌∙◌}
use Rattle.std.specs.Result.{result_ok}
use Rattle.frame.proofs.Reading.{decoded_bits, ok_part}
use Rattle.frame.proofs.judging.judge_half.Goals as goal

pub check_half-requires : goal.check_half-requires
check_half-requires c =
    let a = c.in_ok-corrected.corrected in
    let some : result_ok c.decode.result ≡ Some a = sym c.ok-2.ensures.value ∙ c.ok_or-2.ensures.ok_part ∙ ap result_ok c.in_ok-corrected.was in
    decoded_bits c.in_ok-word.word a c.decode.ensures.finds (sym c.decode.ensures.is ∙ ok_part c.decode.result a some)
