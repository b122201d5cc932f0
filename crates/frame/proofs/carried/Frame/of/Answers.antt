use Rattle.std.proofs.Common.{◌≡◌, ℕ, ◌+◌, ◌*◌, ◌%◌, ◌<◌, List, length, get_or, ap, ◌∙◌, ap₂, mod-lt, arith}
use Rattle.std.proofs.lemmas.List.{get_or_default}
use Rattle.card.specs.Card.{value_of}
use Rattle.content.specs.Sequence.{marker, sequence, round_length}
use Rattle.content.specs.declared.entry.Content.{Content}
use Rattle.frame.proofs.carried.Frame.of.Goals as goal

pub returns : goal.returns
returns c =
    let v = value_of c.args.card.now in
    let k = c.args.number in
    let laws = c.of-sequence.ensures.laws in
    let all : c.entries-entries.result.now ≡ sequence v = c.entries-entries.ensures ∙ c.of-sequence.ensures.entries in
    let n : c.frames.result ≡ round_length v = c.frames.ensures ∙ c.of-sequence.ensures.frames in
    let at : c.entry_of-at.result ≡ 2 * (k % round_length v) = c.entry_of-at.ensures ∙ ap (λ (m : ℕ). 2 * (k % m)) n in
    let low : k % round_length v < round_length v = mod-lt k (omega (arith, laws.some)) in
    let in-first : 2 * (k % round_length v) < length (sequence v) = omega (arith, low, laws.even) in
    let in-second : 2 * (k % round_length v) + 1 < length (sequence v) = omega (arith, low, laws.even) in
    let id : c.octets.result ≡ v.identifier = c.octets.ensures ∙ ap (λ i. i.octets) c.identifier.ensures in
    let blank : Content = record { id = 0; word = 0 } in
    let one : get_or c.entries-entries.result.now c.entry_of-at.result blank ≡ get_or (sequence v) (2 * (k % round_length v)) marker =
    ap₂ (λ (xs : List Content) (i : ℕ). get_or xs i blank) all at ∙ get_or_default (sequence v) (2 * (k % round_length v)) blank marker in-first
    in
    let two : get_or c.entries-entries.result.now (c.entry_of-at.result + 1) blank ≡ get_or (sequence v) (2 * (k % round_length v) + 1) marker =
    ap₂ (λ (xs : List Content) (i : ℕ). get_or xs (i + 1) blank) all at ∙ get_or_default (sequence v) (2 * (k % round_length v) + 1) blank marker in-second
    in
    λ i. record { unique = c.unique_of.ensures i; identifier = id i; first = one i; second = two i }
