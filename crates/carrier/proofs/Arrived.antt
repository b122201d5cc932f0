-- A take that arrives within the bound is judged as its frame.
use Rattle.std.proofs.Common.{◌≡◌, ℕ, ◌<◌, ◌≤◌, true, List, map, length, replicate, Ok, sym, refl, ap, ◌∙◌, le_trans}
use lib.ListN.{length-map}
use Rattle.std.specs.List.{AllByRecursion}
use Rattle.coding.specs.Distance.{distance}
use Rattle.card.specs.Card.{CardValue}
use Rattle.line.specs.Line.{Model, Word, LineRules}
use Rattle.line.specs.Calls.{decode_output}
use Rattle.line.proofs.Answers.{decode_written}
use Rattle.frame.specs.Frame.{frame_bits, frame_of}
use Rattle.frame.specs.Judging.{judged, Sendable}
use Rattle.frame.proofs.AsSent.{judged_as_sent}
use Rattle.frame.proofs.Octets.{frame_length, frame_bits_lem}
use Rattle.chips.specs.Chips.{block, despread, lost}
use Rattle.chips.specs.Laws.{IsBlock}
use Rattle.chips.proofs.Hearing.{heard_bits_lem}
use Rattle.sender.specs.Takes.{line_bits, take_of}
use Rattle.sender.proofs.Takes.{line_word}

module _ (m : Model) (rules : LineRules m) (takes : m.takes 244 ≡ true) (c : CardValue) (room : (k : ℕ) → Sendable (frame_of c k)) where
  pub eight : length c.identifier ≡ 8
  eight = (room 0).eight

  -- blocks of a take: as many as it has, and few enough spread bits of them lost
  pub record Arrives (k last : ℕ) (heard : List (List ℕ)) : Type 0 where
    pub many : length heard ≡ m.line_length 244
    pub blocks : AllByRecursion IsBlock heard
    pub bound : m.growth (lost (take_of m c k last) heard) ≤ 6

  pub judged_as : (k last : ℕ) (heard : List (List ℕ)) → last < 2 → Arrives k last heard →
      judged (decode_output m (map despread heard) (replicate 244 0)) ≡ Ok (frame_of c k)
  unfolding line_bits take_of
  judged_as k last heard h a =
      let f = frame_of c k in
      let w = frame_bits f in
      let y = m.encode w last in
      let x = map despread heard in
      let word : Word 244 w = (frame_length f eight, frame_bits_lem f) in
      let line : Word (m.line_length 244) y = line_word m rules takes c k last eight h in
      let near = heard_bits_lem y line.1 heard a.blocks (a.many ∙ sym line.0) in
      let long : length x ≡ m.line_length 244 = length-map heard despread ∙ a.many in
      let back : Word 244 (m.decode x) = rules.decodes 244 x takes (long, near.are_line_bits) in
      let six : distance (m.decode x) w ≤ 6 =
      le_trans (rules.near 244 w last x takes word h (long, near.are_line_bits)) (le_trans (rules.rising (distance x y) (lost (map block y) heard) near.near) a.bound)
      in
      let decoded : m.decode x ≡ decode_output m x (replicate 244 0) =
      decode_written m x (replicate 244 0) takes (sym long) near.are_line_bits (m.decode x) refl
      in
      ap judged (sym decoded) ∙ judged_as_sent f (m.decode x) (room k) back.0 back.1 six
