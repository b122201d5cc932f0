use Rattle.std.proofs.Common.{◌≡◌, [], ◌∙◌, append_assoc, rules}
use Rattle.std.specs.Option.{option_map}
use Rattle.buffers.specs.Buffer.{text_of, appended}
use Rattle.buffers.proofs.Appending.{appended_appended, appended_whole}
use Rattle.card.specs.Card.{value_of}
use Rattle.card.specs.Print.{coordinate_text, card_text}
use Rattle.card.proofs.Lengths.{card_fits}
use Rattle.card.proofs.card.Card.text.Goals as goal

pub returns : goal.returns
returns c =
    let v = value_of c.args.self.now in
    let lat : option_map text_of c.map.result ≡ option_map (coordinate_text 2 78 83) v.latitude = search rules in
    let long : option_map text_of c.map-2.result ≡ option_map (coordinate_text 3 69 87) v.longitude = search rules in
    let tel : option_map text_of c.map-3.result ≡ v.telephone = search rules in
    let msg : option_map text_of c.map-4.result ≡ v.message = search rules in
    let lines : text_of c.put_field-4.new.page ≡ appended 112 [] (card_text v) =
    simp (c.put_field-4.ensures, c.put_field-3.ensures, c.put_field-2.ensures, c.put_field.ensures, c.put_identifier.ensures, c.new-page.ensures, lat, long, tel, msg, appended_appended, append_assoc)
    in
    lines ∙ appended_whole 112 [] (card_text v) (card_fits c.args.self.now)
