use Rattle.std.proofs.Common.{◌≡◌, [], ◌++◌, length, get_or, take, codes, sym, ap, ◌∙◌, append_assoc, arith}
use Rattle.std.proofs.lemmas.List.{take_all, take_more, flat_map_more}
use Rattle.buffers.specs.Buffer.{text_of}
use Rattle.buffers.proofs.Appending.{nothing_appended, appended_appended}
use Rattle.card.specs.Print.{hex_octet, colon_octets}
use Rattle.card.proofs.print.put_identifier.Goals as goal

pub loop-octet-init : goal.loop-octet-init
loop-octet-init c = nothing_appended 112 (text_of c.extend.new.self) (text_of c.extend-2.new.self) c.hex_octet.result c.extend-2.ensures

pub loop-octet-preserved : goal.loop-octet-preserved
loop-octet-preserved c =
    let os = c.octets-octet-items.result in
    let i = c.loop-octet.octet-index in
    let more = ap colon_octets (take_more os i 0 (omega arith)) ∙ sym (flat_map_more (λ o. codes ":" ++ hex_octet o) [] (take i os) (get_or os i 0)) in
    simp (c.extend-in-loop-octet.ensures, c.loop-octet.invariant, c.colon_octet.ensures, appended_appended, append_assoc, more)

pub returns : goal.returns
returns c =
    let all : take c.loop-octet.octet-index c.octets-octet-items.result ≡ c.args.identifier.octets =
    take_all c.loop-octet.octet-index c.octets-octet-items.result (omega (arith, ap length c.octets-octet-items.ensures, c.args.identifier.eight)) ∙ c.octets-octet-items.ensures
    in
    simp (c.push.ensures, c.loop-octet.invariant, c.extend-2.ensures, c.extend.ensures, c.hex_octet.ensures, c.check_octet.ensures, all, appended_appended, append_assoc)
