use Rattle.std.proofs.Common.{ℕ, ◌+◌, ◌-◌, drop, sym, ap, ◌∙◌, arith}
use Rattle.std.specs.Prelude.{replicate}
use Rattle.std.proofs.lemmas.List.{drop-drop, drop-set-lt, drop-replicate, length-set}
use Rattle.buffers.proofs.buffer.Buffer.push.Goals as goal

pub invariant_of-self-clause-full : goal.invariant_of-self-clause-full
invariant_of-self-clause-full g c = length-set c.args.self.now.room c.args.self.now.len c.args.octet ∙ c.args.self.now.full

pub invariant_of-self-clause-blank : goal.invariant_of-self-clause-blank
invariant_of-self-clause-blank g c =
    let b = c.args.self.now in
    drop-set-lt (b.len + 1) b.room b.len c.args.octet (omega arith)
    ∙ sym (drop-drop 1 b.len b.room)
    ∙ ap (drop 1) b.blank
    ∙ drop-replicate 1 (g.row.N - b.len) 0
    ∙ ap (λ (k : ℕ). replicate k 0) (omega arith)
