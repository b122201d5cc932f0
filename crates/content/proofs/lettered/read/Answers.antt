use Rattle.std.proofs.Common.{ℕ, cond, List, [], ◌∷◌, Some, None, sym, ◌∙◌, ap, arith}
use Rattle.buffers.specs.Buffer.{text_of, appended}
use Rattle.content.proofs.LaidOut.{read_none, read_more, read_stop, read_all}
use Rattle.content.proofs.lettered.read.Goals as goal

pub loop-group-init : goal.loop-group-init
loop-group-init g c = read_none g.T.Lettered.lettering.character g.T.Lettered.PADDING c.args.groups.now _ c.new-characters.ensures

pub loop-group-preserved : goal.loop-group-preserved
loop-group-preserved g c =
    read_more g.T.Lettered.lettering.character g.T.Lettered.PADDING c.args.groups.now c.loop-group.group-index c.character.result (text_of c.loop-group.characters) _
    (omega arith) (λ e. c.if-group-PADDING.false (e ∙ sym c.PADDING.ensures)) c.character.ensures
    (c.push.ensures ∙ ap (λ (n : ℕ). appended n (text_of c.loop-group.characters) (c.character.result ∷ [])) (sym c.told-groups)) c.loop-group.invariant

pub returns-then-group-PADDING : goal.returns-then-group-PADDING
returns-then-group-PADDING g c =
    let e = read_stop g.T.Lettered.lettering.character g.T.Lettered.PADDING c.args.groups.now c.loop-group.group-index (text_of c.loop-group.characters) (omega arith) (c.if-group-PADDING.true ∙ c.PADDING.ensures) c.loop-group.invariant in
    c.of.ensures ∙ ap (λ (t : List ℕ). cond (g.T.Lettered.lawful t) (Some t) None) (c.as_slice.ensures.value ∙ e)

pub returns : goal.returns
returns g c =
    let e = read_all g.T.Lettered.lettering.character g.T.Lettered.PADDING c.args.groups.now c.loop-group.group-index (text_of c.loop-group.characters) (omega arith) c.loop-group.invariant in
    c.of-2.ensures ∙ ap (λ (t : List ℕ). cond (g.T.Lettered.lawful t) (Some t) None) (c.as_slice-2.ensures.value ∙ e)
