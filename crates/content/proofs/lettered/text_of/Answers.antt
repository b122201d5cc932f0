use Rattle.std.proofs.Common.{◌≡◌, ℕ, ◌*◌, ◌^◌, ◌<◌, cond, List, length, replicate, Some, None, sym, ap, ◌∙◌, ap₂, subst, arith}
use Rattle.std.specs.Option.{option_map}
use Rattle.std.specs.List.{AllByRecursion}
use Rattle.std.proofs.lemmas.Bool.{both_ways}
use Rattle.std.proofs.lemmas.Bool.Decides.{Decides-eqb}
use Rattle.std.proofs.lemmas.List.{length-replicate}
use Rattle.std.proofs.lemmas.Slice.Eq.{slice_eq-Decides}
use Rattle.coding.specs.Bits.{group_bits, groups}
use Rattle.coding.proofs.Groups.{group_bits_bits, groups_below}
use Rattle.content.specs.Kinds.{lettered_kind}
use Rattle.content.proofs.TakingApart.{apart_same, apart_other, none_apart, some_asked, value_is}
use Rattle.content.proofs.lettered.text_of.Goals as goal

pub regroup-requires : goal.regroup-requires
regroup-requires g c =
    let cut = g.met.T.Lettered.cut in
    let count : length c.args.words.now * 24 ≡ g.T.Lettered.lettering.count * 24 = ap (λ (n : ℕ). n * 24) (c.told-words ∙ c.requires.1) in
    let room : length (replicate {A = ℕ} g.row.ROOM 0) * c.WIDTH.result ≡ g.T.Lettered.lettering.room * g.T.Lettered.WIDTH = ap₂ (λ (n w : ℕ). n * w) (length-replicate g.row.ROOM 0 ∙ c.requires.0) c.WIDTH.ensures in
    (count ∙ sym cut.whole ∙ sym room, (omega (arith, cut.whole, cut.few), omega (arith, cut.narrow)))

pub read-requires : goal.read-requires
read-requires g c =
    let cut = g.met.T.Lettered.cut in
    let small : g.row.ROOM * 4 < 9223372036854775808 = omega (arith, cut.small, c.requires.0) in
    let below : AllByRecursion (λ x. x < 2 ^ g.T.Lettered.WIDTH) c.regroup.new.to =
    subst (AllByRecursion (λ x. x < 2 ^ g.T.Lettered.WIDTH)) (sym (c.regroup.ensures ∙ ap (λ (w : ℕ). groups w (length (replicate {A = ℕ} g.row.ROOM 0)) (group_bits 24 c.args.words.now)) c.WIDTH.ensures))
    (groups_below g.T.Lettered.WIDTH (length (replicate {A = ℕ} g.row.ROOM 0)) (group_bits 24 c.args.words.now) (group_bits_bits 24 c.args.words.now)) in
    (small, below)

pub returns-in_err-text : goal.returns-in_err-text
returns-in_err-text g c =
    let k = lettered_kind g.T.Lettered.lawful g.T.Lettered.lettering in
    let v = value_is g.T.Lettered.lawful g.T.Lettered.lettering c.args.words.now c.regroup.new.to c.WIDTH.result (length (replicate {A = ℕ} g.row.ROOM 0)) g.T.Lettered.PADDING
    c.regroup.ensures (g.met.T.Lettered.cut.wide ∙ sym c.WIDTH.ensures) (length-replicate g.row.ROOM 0 ∙ c.requires.0) g.met.T.Lettered.cut.padded in
    ap (option_map g.T.Lettered.text_of) c.from_residual.ensures
    ∙ sym (none_apart k c.args.words.now (c.in_err-text.ensures ∙ ap (λ (t : List ℕ). cond (g.T.Lettered.lawful t) (Some t) None) v))

pub returns-then-eq : goal.returns-then-eq
returns-then-eq g c =
    let k = lettered_kind g.T.Lettered.lawful g.T.Lettered.lettering in
    let v = value_is g.T.Lettered.lawful g.T.Lettered.lettering c.args.words.now c.regroup.new.to c.WIDTH.result (length (replicate {A = ℕ} g.row.ROOM 0)) g.T.Lettered.PADDING
    c.regroup.ensures (g.met.T.Lettered.cut.wide ∙ sym c.WIDTH.ensures) (length-replicate g.row.ROOM 0 ∙ c.requires.0) g.met.T.Lettered.cut.padded in
    let t = g.T.Lettered.text_of c.in_ok-text.text in
    let s = some_asked k c.args.words.now t (c.in_ok-text.ensures ∙ ap (λ (t : List ℕ). cond (g.T.Lettered.lawful t) (Some t) None) v) in
    let d = slice_eq-Decides Decides-eqb c.words_of.result c.args.words.now c.eq.result c.eq.ensures in
    apart_same k c.args.words.now t s.0 s.1 (sym c.words_of.ensures ∙ d.0 c.if-eq.true)

pub returns-else-eq : goal.returns-else-eq
returns-else-eq g c =
    let k = lettered_kind g.T.Lettered.lawful g.T.Lettered.lettering in
    let v = value_is g.T.Lettered.lawful g.T.Lettered.lettering c.args.words.now c.regroup.new.to c.WIDTH.result (length (replicate {A = ℕ} g.row.ROOM 0)) g.T.Lettered.PADDING
    c.regroup.ensures (g.met.T.Lettered.cut.wide ∙ sym c.WIDTH.ensures) (length-replicate g.row.ROOM 0 ∙ c.requires.0) g.met.T.Lettered.cut.padded in
    let t = g.T.Lettered.text_of c.in_ok-text.text in
    let s = some_asked k c.args.words.now t (c.in_ok-text.ensures ∙ ap (λ (t : List ℕ). cond (g.T.Lettered.lawful t) (Some t) None) v) in
    let d = slice_eq-Decides Decides-eqb c.words_of.result c.args.words.now c.eq.result c.eq.ensures in
    sym (apart_other k c.args.words.now t s.0 (λ w. both_ways c.eq.result c.if-eq.false (d.1 (c.words_of.ensures ∙ w))))
