use Rattle.std.proofs.Common.{◌≡◌, ℕ, ◌≤◌, List, [], ◌++◌, get_or, length, take, sym, ap, ◌∙◌, arith}
use Rattle.std.proofs.lemmas.List.{take_all, append-nil}
use Rattle.coding.specs.Bits.{bits, octet_bits}
use Rattle.buffers.specs.Buffer.{text_of, appended}
use Rattle.buffers.proofs.Appending.{appended_appended, appended_whole}
use Rattle.frame.proofs.Filling.{text_within}
use Rattle.frame.proofs.Octets.{octet_bits_none, octet_bits_take}
use Rattle.frame.proofs.bits.append_octets.Goals as goal

pub loop-octet-init : goal.loop-octet-init
loop-octet-init g c =
    let b = c.args.bits.now in
    let held = text_of b in
    let fits : length (held ++ []) ≤ g.row.N = omega (arith, ap length (append-nil held), text_within b) in
    sym (ap (appended g.row.N held) octet_bits_none ∙ appended_whole g.row.N held [] fits ∙ append-nil held)

pub loop-octet-preserved : goal.loop-octet-preserved
loop-octet-preserved g c =
    let held = text_of c.args.bits.now in
    let os = c.args.octets.now in
    let i = c.loop-octet.octet-index in
    let x : bits 8 c.from.result ≡ bits 8 (get_or os i 0) = ap (bits 8) c.from.ensures in
    c.append_number.ensures
    ∙ ap (λ (t : List ℕ). appended g.row.N t (bits 8 c.from.result)) c.loop-octet.invariant
    ∙ appended_appended g.row.N held (octet_bits (take i os)) (bits 8 c.from.result)
    ∙ ap (λ (b : List ℕ). appended g.row.N held (octet_bits (take i os) ++ b)) x
    ∙ ap (appended g.row.N held) (octet_bits_take os i (omega arith))

pub returns : goal.returns
returns g c = c.loop-octet.invariant ∙ ap (λ (os : List ℕ). appended g.row.N (text_of c.args.bits.now) (octet_bits os)) (take_all c.loop-octet.octet-index c.args.octets.now (omega arith))
