-- On the standard's line the blocks of takes are the standard's signal.
use Rattle.std.proofs.Common.{◌≡◌, ℕ, zero, suc, ◌+◌, ◌-◌, ◌*◌, ◌<◌, List, [], ◌∷◌, ◌++◌, map, length, get_or, take, drop, sym, refl, ap, ◌∙◌, ap₂, arith}
use Rattle.std.proofs.lemmas.List.{take_at, drop_at, append_assoc, length-map, get_or-map, get_or_append_left, get_or-append-add}
use Rattle.coding.specs.Bits.{plus, group_bits}
use Rattle.coding.proofs.Groups.{group_bits_append}
use Rattle.card.specs.Card.{CardValue}
use Rattle.line.specs.Line.{LineRules}
use Rattle.line.specs.Stages.{cascade, scrambling, repetition, differential as differential_stage}
use Rattle.line.specs.Lines.{standard}
use Rattle.line.proofs.CascadeRules.{cascade_rules}
use Rattle.line.proofs.DifferentialRules.{differential_rules}
use Rattle.line.proofs.RepetitionRules.{repetition_rules}
use Rattle.line.proofs.ScramblingRules.{scrambling_rules}
use Rattle.frame.specs.Frame.{frame_bits, frame_of}
use Rattle.frame.proofs.Octets.{frame_length, frame_bits_lem}
use Rattle.chips.specs.Chips.{chips, block}
use Rattle.chips.proofs.Blocks.{block_chips}
use Rattle.sender.specs.Takes.{line_bits, last_of, take_of, takes_of, in_order}
use Rattle.sender.specs.Signal.{scrambled, repeated, stream, differential, chipped, signal, without_openings, block_before, StandardSignal}
use Rattle.sender.proofs.Takes.{last_more, line_word, last_bit, sends}
use Rattle.sender.proofs.StandardLine.{standard_encode}

in_order_append : {X : Type 0} (xs ys : List (List X)) → in_order (xs ++ ys) ≡ in_order xs ++ in_order ys
unfolding in_order
in_order_append [] ys = refl
in_order_append (x ∷ xs) ys = ap (λ r. x ++ r) (in_order_append xs ys) ∙ sym (append_assoc x (in_order xs) (in_order ys))

chipped_append : (xs ys : List ℕ) → chipped (xs ++ ys) ≡ chipped xs ++ chipped ys
unfolding chipped
chipped_append [] ys = refl
chipped_append (x ∷ xs) ys = ap (λ (r : List ℕ). chips x ++ r) (chipped_append xs ys) ∙ sym (append_assoc (chips x) (chipped xs) (chipped ys))

-- the encoder goes on from the last bit that it gave
differential_append : (xs ys : List ℕ) (last : ℕ) →
    differential last (xs ++ ys) ≡ differential last xs ++ differential (last_of (last ∷ differential last xs)) ys
unfolding differential
differential_append [] ys last = unfold last_of in refl
differential_append (x ∷ xs) ys last =
    ap (λ (r : List ℕ). plus x last ∷ r) (differential_append xs ys (plus x last))
    ∙ ap (λ (b : ℕ). plus x last ∷ (differential (plus x last) xs ++ differential b ys)) (sym (last_more last (plus x last) (differential (plus x last) xs)))

module _ (rules : LineRules standard) where
  blocks_chipped : (bits : List ℕ) → group_bits 8 (in_order (map block bits)) ≡ chipped bits
  unfolding in_order chipped
  blocks_chipped [] = unfold group_bits in refl
  blocks_chipped (b ∷ bits) = group_bits_append 8 (block b) (in_order (map block bits)) ∙ ap₂ ◌++◌ (block_chips b) (blocks_chipped bits)

  module _ (c : CardValue) (eight : length c.identifier ≡ 8) where
    -- the line bits of a take
    bits_of : (k last : ℕ) → line_bits standard c k last ≡ last ∷ differential last (repeated (scrambled (frame_bits (frame_of c k))))
    unfolding line_bits
    bits_of k last = standard_encode (frame_bits (frame_of c k)) last (frame_length (frame_of c k) eight) (frame_bits_lem (frame_of c k))

    take_length : (k last : ℕ) → last < 2 → length (take_of standard c k last) ≡ 977
    unfolding take_of
    take_length k last h = length-map (line_bits standard c k last) block ∙ (line_word standard rules refl c k last eight h).0

    signal_of : (n k last : ℕ) → last < 2 → group_bits 8 (in_order (without_openings n (in_order (takes_of standard c n k last)))) ≡ signal c n k last
    unfolding without_openings takes_of in_order stream
    signal_of zero k last h = unfold group_bits differential chipped in refl
    signal_of (suc n) k last h =
        let x = repeated (scrambled (frame_bits (frame_of c k))) in
        let t = take_of standard c k last in
        let next = last_of (line_bits standard c k last) in
        let rest = in_order (takes_of standard c n (suc k) next) in
        let l = take_length k last h in
        let bits : drop 1 t ≡ map block (differential last x) = unfold take_of in ap (λ (y : List ℕ). drop 1 (map block y)) (bits_of k last) in
        let here : drop 1 (take 977 (t ++ rest)) ≡ map block (differential last x) = ap (drop 1) (take_at t rest 977 l) ∙ bits in
        let there : drop 977 (t ++ rest) ≡ rest = drop_at t rest 977 l in
        ap (group_bits 8) (
        ap₂ (λ (a b : List (List ℕ)). in_order (a ++ without_openings n b)) here there
        ∙ in_order_append (map block (differential last x)) (without_openings n rest))
        ∙ group_bits_append 8 (in_order (map block (differential last x))) (in_order (without_openings n rest))
        ∙ ap₂ ◌++◌ (blocks_chipped (differential last x)) (signal_of n (suc k) next (last_bit standard rules refl c k last eight h))
        ∙ sym (
        ap chipped (
        differential_append x (stream c n (suc k)) last
        ∙ ap (λ (y : List ℕ). differential last x ++ differential (last_of y) (stream c n (suc k))) (sym (bits_of k last)))
        ∙ chipped_append (differential last x) (differential next (stream c n (suc k))))

    -- the first block of a take, and its last
    first_block : (k last : ℕ) → get_or (take_of standard c k last) 0 [] ≡ block last
    unfolding take_of
    first_block k last = ap (λ (y : List ℕ). get_or (map block y) 0 []) (bits_of k last)

    last_block : (k last : ℕ) → last < 2 → get_or (take_of standard c k last) 976 [] ≡ block (last_of (line_bits standard c k last))
    unfolding take_of last_of
    last_block k last h =
        let y = line_bits standard c k last in
        let l : length y ≡ 977 = (line_word standard rules refl c k last eight h).0 in
        get_or-map block y 976 0 [] (omega arith) ∙ ap (λ (n : ℕ). block (get_or y (n - 1) 0)) (sym l)

    openings_of : (n k last : ℕ) → last < 2 → (i : ℕ) → i < n →
        get_or (in_order (takes_of standard c n k last)) (i * 977) [] ≡ block_before last (in_order (takes_of standard c n k last)) (i * 977)
    unfolding takes_of in_order block_before
    openings_of zero k last h i lt = absurd (omega arith)
    openings_of (suc n) k last h zero lt =
        let t = take_of standard c k last in
        get_or_append_left t _ [] 0 (omega (arith, take_length k last h)) ∙ first_block k last
    openings_of (suc n) k last h (suc i) lt =
        let t = take_of standard c k last in
        let next = last_of (line_bits standard c k last) in
        let rest = in_order (takes_of standard c n (suc k) next) in
        let l = take_length k last h in
        let place : suc i * 977 ≡ length t + i * 977 = omega arith in
        ap (λ (j : ℕ). get_or (t ++ rest) j []) place
        ∙ get_or-append-add t rest (i * 977) []
        ∙ openings_of n (suc k) next (last_bit standard rules refl c k last eight h) i (omega arith)
        ∙ before_on t rest last next (i * 977) (suc i * 977) (last_block k last h) l (omega arith)
      where
        before_on : (t rest : List (List ℕ)) (last next j m : ℕ) → get_or t 976 [] ≡ block next → length t ≡ 977 → m ≡ 977 + j →
            block_before next rest j ≡ block_before last (t ++ rest) m
        before_on t rest last next zero zero e l p = absurd (omega arith)
        before_on t rest last next zero (suc m) e l p =
            let q : m ≡ 976 = omega arith in
            sym (ap (λ (j : ℕ). get_or (t ++ rest) j []) q ∙ get_or_append_left t rest [] 976 (omega arith) ∙ e)
        before_on t rest last next (suc j) zero e l p = absurd (omega arith)
        before_on t rest last next (suc j) (suc m) e l p =
            let q : m ≡ length t + j = omega arith in
            sym (ap (λ (j : ℕ). get_or (t ++ rest) j []) q ∙ get_or-append-add t rest j [])

  signal_stands : StandardSignal
  signal_stands n s b eight below =
      let takes = in_order (takes_of standard s.card n s.number s.last) in
      record {
        blocks = takes;
        written = (sends standard rules refl n s b eight below).blocks;
        chips = signal_of s.card eight n s.number s.last b.bit;
        openings = openings_of s.card eight n s.number s.last b.bit;
      }

standard_rules : LineRules standard
standard_rules =
    cascade_rules scrambling (cascade repetition differential_stage) scrambling_rules
    (cascade_rules repetition differential_stage repetition_rules differential_rules)

pub standard_signal : StandardSignal
standard_signal = signal_stands standard_rules
