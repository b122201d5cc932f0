use Rattle.std.proofs.Common.{◌≡◌, ℕ, ◌*◌, ◌<◌, ◌≤◌, List, length, replicate, sym, ap, ◌∙◌, ap₂, arith, lit≤}
use Rattle.std.proofs.lemmas.List.{length-replicate}
use Rattle.coding.specs.Bits.{group_bits, groups}
use Rattle.content.specs.Kinds.{laid_out}
use Rattle.content.proofs.LaidOut.{length_laid}
use Rattle.content.proofs.lettered.words_of.Goals as goal

pub laid_out-groups-requires : goal.laid_out-groups-requires
laid_out-groups-requires g c =
    let cut = g.met.T.Lettered.cut in
    let small : g.row.ROOM * 4 < 9223372036854775808 = omega (arith, cut.small, c.requires.0) in
    let short : length c.text.result.now ≤ g.row.ROOM = omega (arith, c.text.ensures.short, c.requires.0) in
    (small, (c.requires.0, short))

pub shared_whole_as_slice-regroup : goal.shared_whole_as_slice-regroup
shared_whole_as_slice-regroup g c = let cut = g.met.T.Lettered.cut in omega (arith, cut.small, c.requires.0)

pub regroup-requires : goal.regroup-requires
regroup-requires g c =
    let cut = g.met.T.Lettered.cut in
    let long : length c.laid_out-groups.result ≡ g.T.Lettered.lettering.room = ap length c.laid_out-groups.ensures ∙ length_laid g.T.Lettered.lettering c.text.result.now c.text.ensures.short in
    let wide : c.WIDTH.result ≡ g.T.Lettered.WIDTH = c.WIDTH.ensures in
    let whole : length c.laid_out-groups.result * c.WIDTH.result ≡ g.T.Lettered.lettering.count * 24 = ap₂ (λ (n w : ℕ). n * w) long wide ∙ cut.whole in
    let words : length (replicate {A = ℕ} g.row.COUNT 0) ≡ g.T.Lettered.lettering.count = length-replicate g.row.COUNT 0 ∙ c.requires.1 in
    (whole ∙ ap (λ (n : ℕ). n * 24) (sym words), (omega (arith, cut.whole, cut.few), lit≤ tt))

pub returns : goal.returns
returns g c =
    let cut = g.met.T.Lettered.cut in
    let words : length (replicate {A = ℕ} g.row.COUNT 0) ≡ g.T.Lettered.lettering.count = length-replicate g.row.COUNT 0 ∙ c.requires.1 in
    let wide : c.WIDTH.result ≡ g.T.Lettered.lettering.width = c.WIDTH.ensures ∙ sym cut.wide in
    let laid : c.laid_out-groups.result ≡ laid_out g.T.Lettered.lettering (g.T.Lettered.text_of c.args.text.now) = c.laid_out-groups.ensures ∙ ap (laid_out g.T.Lettered.lettering) c.text.ensures.value in
    c.regroup.ensures ∙ ap (λ (n : ℕ). groups 24 n (group_bits c.WIDTH.result c.laid_out-groups.result)) words
    ∙ ap₂ (λ (w : ℕ) (gs : List ℕ). groups 24 g.T.Lettered.lettering.count (group_bits w gs)) wide laid
