use Rattle.std.proofs.Common.{◌≡◌, ℕ, ◌-◌, ◌++◌, map, length, replicate, sym, ◌∙◌, ap₂, arith}
use Rattle.content.proofs.LaidOut.{laid_more, laid_all}
use Rattle.content.proofs.lettered.laid_out.Goals as goal

pub loop-i-init : goal.loop-i-init
loop-i-init g c = let none : g.row.ROOM ≡ g.row.ROOM - 0 = omega arith in ap₂ replicate none c.PADDING-groups.ensures

pub loop-i-preserved : goal.loop-i-preserved
loop-i-preserved g c =
    laid_more g.T.Lettered.lettering.code g.row.ROOM g.T.Lettered.PADDING c.args.characters.now c.loop-i.i c.code.result c.loop-i.groups
    (omega arith) c.requires.1 c.loop-i.invariant c.code.ensures

pub returns : goal.returns
returns g c =
    let t = c.args.characters.now in
    laid_all g.T.Lettered.lettering.code g.row.ROOM g.T.Lettered.PADDING t c.loop-i.i c.loop-i.groups (omega arith) c.loop-i.invariant
    ∙ ap₂ (λ (n p : ℕ). map g.T.Lettered.lettering.code t ++ replicate (n - length t) p) c.requires.0 (sym g.met.T.Lettered.cut.padded)
