use Rattle.std.proofs.Common.{◌≡◌, ◌∙◌, sym, [], length, take, rules, take_at}
use Rattle.buffers.specs.Buffer.{text_of, appended}
use Rattle.buffers.proofs.Appending.{appended_whole}
use Rattle.card.specs.Card.{value_of}
use Rattle.card.specs.Print.{card_text}
use Rattle.example_cards.proofs.printing.printed.Goals as goal

pub returns-in-Ok : goal.returns-in-Ok
returns-in-Ok c =
    let t = card_text (value_of c.args.card.now) in
    let len : c.in-Ok.len ≡ length t = search rules in
    let front : take c.in-Ok.len c.print.new.out ≡ t = simp (c.print.ensures.text) (take_at t _ c.in-Ok.len (sym len)) in
    let all : text_of c.extend.new.self ≡ appended 112 [] t = simp (c.extend.ensures, c.new-lines.ensures, front) in
    all ∙ appended_whole 112 [] t (search rules)
