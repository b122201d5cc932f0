-- A run with nothing damaged.
use Rattle.std.proofs.Common.{◌≡◌, ℕ, zero, suc, ◌*◌, List, [], ◌∷◌, map, refl, arith}
use Rattle.std.specs.List.{AllByRecursion}
use Rattle.std.proofs.ByRecursion.{All-append}
use Rattle.coding.specs.Bits.{group_bits}
use Rattle.coding.proofs.Distances.{distance_self}
use Rattle.card.specs.Card.{CardValue, card_after_all}
use Rattle.content.specs.Sequence.{round_length}
use Rattle.line.specs.Line.{Model}
use Rattle.chips.specs.Chips.{block, flipped, lost}
use Rattle.chips.specs.Laws.{IsBlock}
use Rattle.chips.proofs.Blocks.{block_is}
use Rattle.sender.specs.Sending.{Sending}
use Rattle.sender.specs.Takes.{line_bits, last_of, take_of, takes_of, in_order, BetweenTakes}
use Rattle.sender.proofs.Takes.{sends_takes}
use Rattle.carrier.specs.Guarantee.{nth_take, Run}
use Rattle.carrier.proofs.Cards.{eight}
use Rattle.carrier_laws.specs.Runs.{RunsExist}

none_lost : (blocks : List (List ℕ)) → lost blocks blocks ≡ 0
unfolding lost flipped
none_lost [] = refl
none_lost (b ∷ blocks) = rw (distance_self (group_bits 8 b)) (omega (arith, none_lost blocks))

all_blocks : (bits : List ℕ) → AllByRecursion IsBlock (map block bits)
all_blocks [] = tt
all_blocks (b ∷ bits) = (block_is b, all_blocks bits)

takes_blocks : (m : Model) (c : CardValue) (n k last : ℕ) → AllByRecursion IsBlock (in_order (takes_of m c n k last))
unfolding takes_of in_order
takes_blocks m c zero k last = tt
takes_blocks m c (suc n) k last =
    All-append IsBlock (take_of m c k last) _ (unfold take_of in all_blocks (line_bits m c k last))
    (takes_blocks m c n (suc k) (last_of (line_bits m c k last)))

pub runs_exist : RunsExist
runs_exist m rules takes nine octets card opens acts number last bit numbers =
    let c = card_after_all card acts in
    let n = 2 * round_length c in
    let size = m.line_length 244 in
    let s : Sending = record { card = c; number = number; last = last; size = size; left = [] } in
    let between : BetweenTakes m s = record { size = refl; none_left = refl; bit = bit } in
    let sent = in_order (takes_of m c n number last) in
    let run : Run m = record {
      nine = nine;
      octets = octets;
      card = card;
      opens = opens;
      acts = acts;
      sender = s;
      for_card = refl;
      between = between;
      numbers = numbers;
      sent = sent;
      writes = (sends_takes m rules takes n s between (eight nine card opens acts) numbers).blocks;
      arriving = sent;
      many = refl;
      blocks = takes_blocks m c n number last;
      bound = λ i lt. rw (none_lost (nth_take size i sent), rules.none) (omega arith);
    } in
    record { run = run; nine_are = refl; acts_are = refl; number_is = refl; last_is = refl; arrives = refl }
