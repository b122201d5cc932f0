use Rattle.line.specs.Stages.{scrambling}
use Rattle.line_stages.proofs.scrambling.ScramblingLine.decode.Given as goal

abbrev pub ghost-check_bits : goal.ghost-check_bits
ghost-check_bits a = scrambling
