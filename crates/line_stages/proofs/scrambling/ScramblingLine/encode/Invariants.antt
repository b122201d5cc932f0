use Rattle.line.specs.Stages.{scrambling}
use Rattle.line_stages.proofs.scrambling.ScramblingLine.encode.Given as goal

abbrev pub ghost-check_word : goal.ghost-check_word
ghost-check_word a = scrambling
