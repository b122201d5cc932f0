use Rattle.std.proofs.Common.{◌≡◌, ℕ, ◌/◌, List, length, ◌∙◌, ap, arith}
use Rattle.std.specs.Simd.{first_chunks}
use Rattle.chips.specs.Chips.{block}
use Rattle.chips.proofs.Blocks.{block_is}
use Rattle.chips.proofs.Counting.{unlike_chunks, unlike_is}
use Rattle.chips.proofs.despreading.unlike_chips.Goals as goal

-- the words of a block
words : (x : List ℕ) (ws : List (List ℕ)) → length x ≡ 512 → ws ≡ first_chunks 8 (length x / 8) x → ws ≡ first_chunks 8 64 x
words x ws l e =
    let count : length x / 8 ≡ 64 = omega arith in
    e ∙ ap (λ (k : ℕ). first_chunks 8 k x) count

pub returns : goal.returns
returns c =
    let x = c.args.heard.now in
    rw (
      c.unlike_in_words.ensures,
      words x c.as_chunks.result.0.now c.requires c.as_chunks.ensures.front,
      words (block 0) c.as_chunks-2.result.0.now (block_is 0).long
          (c.as_chunks-2.ensures.front ∙ ap (λ (p : List ℕ). first_chunks 8 (length p / 8) p) c.pattern_octets.ensures),
    ) (unlike_chunks 64 x (block 0) c.requires (block_is 0).long ∙ unlike_is x)
