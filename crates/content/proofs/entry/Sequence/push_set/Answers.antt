use Rattle.std.proofs.Common.{◌≡◌, ℕ, ◌+◌, List, [], ◌∷◌, ◌++◌, length, get_or, take, sym, ap, ◌∙◌, add-zero, arith}
use Rattle.std.proofs.lemmas.List.{append-nil, append_assoc, take_all}
use Rattle.content.specs.Sequence.{numbered}
use Rattle.content.specs.Entries.{entries_of}
use Rattle.content.specs.declared.entry.Content.{Content}
use Rattle.content.proofs.Sequences.{numbered_none, numbered_more}
use Rattle.content.proofs.entry.Sequence.push_set.Goals as goal

pub loop-i-init : goal.loop-i-init
loop-i-init c =
    let front = entries_of c.args.self.now in
    (sym (add-zero c.args.self.now.len), sym (ap (λ (r : List Content). front ++ r) (numbered_none c.args.first) ∙ append-nil front))

pub loop-i-preserved : goal.loop-i-preserved
loop-i-preserved c =
    let i = c.loop-i.i in
    let first = c.args.first in
    let ws = c.args.words.now in
    let front = entries_of c.args.self.now in
    let inv = c.loop-i.invariant in (
      omega (arith, inv.0, c.push.ensures.len),
      c.push.ensures.entries
          ∙ ap (λ (a : List Content). a ++ (record { id = first + i; word = get_or ws i 0 } ∷ [])) inv.1
          ∙ append_assoc front (numbered first (take i ws)) (record { id = first + i; word = get_or ws i 0 } ∷ [])
          ∙ ap (λ (r : List Content). front ++ r) (numbered_more first ws i (omega arith)),
    )

pub returns : goal.returns
returns c =
    let ws = c.args.words.now in
    let n : c.loop-i.i ≡ length ws = omega arith in
    record {
      len = c.loop-i.invariant.0 ∙ ap (λ (k : ℕ). c.args.self.now.len + k) n;
      entries = c.loop-i.invariant.1 ∙ ap (λ (r : List ℕ). entries_of c.args.self.now ++ numbered c.args.first r) (take_all c.loop-i.i ws (omega arith));
    }
