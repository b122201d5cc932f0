use Rattle.std.proofs.Common.{◌≡◌, ℕ, zero, suc, ◌*◌, ◌/◌, Bool, true, false, ◌&&◌, ltb, List, [], ◌∷◌, length, take, drop, sym, refl, ap, ◌∙◌, arith, rules}
use Rattle.std.proofs.lemmas.List.{drop-drop}
use Rattle.std.proofs.lemmas.Iterator.{YieldsList-from_slice}
use Rattle.std.proofs.lemmas.Iterator.Search.{all_from_yields_List}
use Rattle.std.specs.List.{list_all}
use Rattle.std.specs.Simd.{first_chunks}
use Rattle.coding.specs.Bits.{are_bits}
use Rattle.coding.proofs.bits.are_bits.Goals as goal

-- the front of a word and the rest
cut : (n : ℕ) (w : List ℕ) → (are_bits (take n w) && are_bits (drop n w)) ≡ are_bits w
cut zero w = refl
cut (suc n) [] = refl
cut (suc n) (b ∷ w) = by (ltb b 2) (cut n w)
  where
    by : (t : Bool) → (are_bits (take n w) && are_bits (drop n w)) ≡ are_bits w → ((t && are_bits (take n w)) && are_bits (drop n w)) ≡ (t && are_bits w)
    by true h = h
    by false h = refl

and_assoc : (a b d : Bool) → (a && (b && d)) ≡ ((a && b) && d)
and_assoc true b d = refl
and_assoc false b d = refl

-- blocks and the rest
blocks : (k : ℕ) (w : List ℕ) → (list_all are_bits (first_chunks 128 k w) && are_bits (drop (k * 128) w)) ≡ are_bits w
blocks zero w = refl
blocks (suc k) w =
    ap (λ (v : List ℕ). (are_bits (take 128 w) && list_all are_bits (first_chunks 128 k (drop 128 w))) && are_bits v) (ap (λ (n : ℕ). drop n w) (omega arith) ∙ sym (drop-drop (k * 128) 128 w))
    ∙ sym (and_assoc (are_bits (take 128 w)) (list_all are_bits (first_chunks 128 k (drop 128 w))) (are_bits (drop (k * 128) (drop 128 w))))
    ∙ ap (λ (t : Bool). are_bits (take 128 w) && t) (blocks k (drop 128 w))
    ∙ cut 128 w

-- what is known of all blocks is known of the word, and of the rest
of_word : (w : List ℕ) (ws : List (List ℕ)) (t : Bool) → ws ≡ first_chunks 128 (length w / 128) w → list_all are_bits ws ≡ t → (t && are_bits (drop (length w / 128 * 128) w)) ≡ are_bits w
of_word w ws t front e =
    sym (ap (λ (s : Bool). s && are_bits (drop (length w / 128 * 128) w)) (ap (list_all are_bits) (sym front) ∙ e)) ∙ blocks (length w / 128) w

pub returns-then-all : goal.returns-then-all
returns-then-all c =
    let counted = all_from_yields_List are_bits _ _ c.all.result c.all.ensures.ran (YieldsList-from_slice c.as_chunks.result.0.now cc) (λ x b q k. search rules) in
    c.is_block_of_bits.ensures ∙ ap are_bits c.as_chunks.ensures.back
    ∙ of_word c.args.word.now c.as_chunks.result.0.now true c.as_chunks.ensures.front (sym counted ∙ c.if-all.true)

pub returns-else-all : goal.returns-else-all
returns-else-all c =
    let counted = all_from_yields_List are_bits _ _ c.all.result c.all.ensures.ran (YieldsList-from_slice c.as_chunks.result.0.now cc) (λ x b q k. search rules) in
    c.if-all.false ∙ of_word c.args.word.now c.as_chunks.result.0.now false c.as_chunks.ensures.front (sym counted ∙ c.if-all.false)
