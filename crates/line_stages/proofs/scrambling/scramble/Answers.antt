use Rattle.std.proofs.Common.{◌≡◌, ℕ, ◌-◌, List, [], length, take, drop, arith, length-drop}
use Rattle.std.proofs.lemmas.List.{append-nil, take_all, drop_all}
use Rattle.coding.proofs.Words.{bits_drop}
use Rattle.line.proofs.ScramblingRules.{parts_scrambled}
use Rattle.line_stages.proofs.scrambling.scramble.Goals as goal

-- the part of w from n on, to its end
to_end : (w : List ℕ) (n : ℕ) → take (length w - n) (drop n w) ≡ drop n w
to_end w n = take_all (length w - n) (drop n w) (omega (arith, length-drop n w))

pub add_sequence-requires : goal.add_sequence-requires
add_sequence-requires c =
    let w = c.args.word.now in
    let n = c.min-first.result in
    rw (c.copy_from_slice.ensures.after, to_end w n) (bits_drop n w c.requires.0)

pub returns : goal.returns
returns c =
    let w = c.args.word.now in
    let n = c.min-first.result in
    let none : drop (length w - n) (drop n w) ≡ [] = drop_all (length w - n) (drop n w) (omega (arith, length-drop n w)) in
    let added = simp (c.copy_from_slice.ensures.after, to_end w n) at c.add_sequence.ensures in
    simp (c.copy_from_slice.ensures.after, none, append-nil)
    (parts_scrambled w c.add_sequence.new.bits n c.requires.0 c.min-first.ensures added)
