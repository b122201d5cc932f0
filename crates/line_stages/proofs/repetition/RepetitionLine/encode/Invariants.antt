use Rattle.line.specs.Stages.{repetition}
use Rattle.line_stages.proofs.repetition.RepetitionLine.encode.Given as goal

abbrev pub ghost-check_word : goal.ghost-check_word
ghost-check_word a = repetition
