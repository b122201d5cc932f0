use Rattle.std.proofs.Common.{◌≡◌, ℕ, ◌<◌, length, get_or, rules}
use Rattle.std.proofs.ByRecursion.{All-from_get_or}
use Rattle.carrier.proofs.passing.receive_block.Goals as goal

pub returns-clause-heard : goal.returns-clause-heard
returns-clause-heard g c =
    let block = c.args.block.now in
    let long : length block ≡ 512 = search rules in
    let fits : (i : ℕ) → i < length block → get_or block i 0 < 256 = λ i l. c.fits-block i in
    record {
      block = block;
      is_block = record { long = long; octets = All-from_get_or (λ o. o < 256) block 0 fits };
      answered = c.receive.ensures.answer;
      after = c.receive.ensures.after;
    }
