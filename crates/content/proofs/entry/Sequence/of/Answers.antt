use Rattle.std.proofs.Common.{◌≡◌, ℕ, ◌/◌, List, Option, Some, None, [], ◌∷◌, ◌++◌, length, sym, ap, ◌∙◌, ap₂, arith}
use Rattle.std.specs.Option.{option_map}
use Rattle.std.proofs.lemmas.Iterator.Adapters.{option_map_id}
use Rattle.std.proofs.lemmas.List.{append-nil, append_assoc, length-take-le}
use Rattle.card.specs.Card.{value_of, symbols_of, octets_of}
use Rattle.content.specs.Kinds.{latitude_kind, longitude_kind, telephone_kind, message_kind}
use Rattle.content.specs.Kind.{Kind}
use Rattle.std.specs.Option.{MatchOption, IsSomeAnd, IfSome, IfNone}
use Rattle.content.specs.Sequence.{numbered, set_of, marker, evened, sequence}
use Rattle.content.specs.Entries.{entries_of}
use Rattle.content.specs.declared.entry.Content.{Content}
use Rattle.card.proofs.Accepted.{card_lawful}
use Rattle.content.proofs.ReadBack.{sequence_laws}
use Rattle.content.proofs.entry.Sequence.of.Goals as goal

regroup : (m a b c d : List Content) → (((m ++ a) ++ b) ++ c) ++ d ≡ m ++ (a ++ (b ++ (c ++ d)))
regroup m a b c d = simp append_assoc

-- a field's set, pushed by the words that a function makes of the field
pushed : {V U : Type 0} (k : Kind V) (seen : U → V) (first : ℕ) (field : Option U) (words : Option (List ℕ)) (old new : List Content)
    → MatchOption field (words ≡ None) (λ u. IsSomeAnd words (λ ws. ws ≡ k.words (seen u)))
    → IfSome words (λ ws. new ≡ old ++ numbered first ws) → IfNone words (new ≡ old) → new ≡ old ++ set_of k first (option_map seen field)
pushed k seen first None None old new m some none = none ∙ sym (append-nil old)
pushed k seen first None (Some ws) old new m some none = let z : ◌≡◌ {A = ℕ} 0 1 = cc in absurd (omega arith)
pushed k seen first (Some u) None old new m some none = absurd m
pushed k seen first (Some u) (Some ws) old new m some none = some ∙ ap (λ (x : List ℕ). old ++ numbered first x) m

pub returns : goal.returns
returns c =
    let k = c.args.card.now in
    let v = value_of k in
    let one = pushed latitude_kind (λ p. p) 1 c.latitude.result c.map.result _ _ c.map.ensures.cases c.push_field.ensures.some c.push_field.ensures.none in
    let two = pushed longitude_kind (λ p. p) 2 c.longitude.result c.map-2.result _ _ c.map-2.ensures.cases c.push_field-2.ensures.some c.push_field-2.ensures.none in
    let three = pushed telephone_kind symbols_of 3 c.telephone.result c.map-telephone.result _ _ c.map-telephone.ensures.cases c.push_field-3.ensures.some c.push_field-3.ensures.none in
    let four = pushed message_kind octets_of 6 c.message.result c.map-message.result _ _ c.map-message.ensures.cases c.push_field-4.ensures.some c.push_field-4.ensures.none in
    let lat = ap (set_of latitude_kind 1) (option_map_id c.latitude.result ∙ c.latitude.ensures) in
    let lon = ap (set_of longitude_kind 2) (option_map_id c.longitude.result ∙ c.longitude.ensures) in
    let tel = ap (λ o. set_of telephone_kind 3 (option_map symbols_of o)) c.telephone.ensures in
    let msg = ap (λ o. set_of message_kind 6 (option_map octets_of o)) c.message.ensures in
    let a = one ∙ ap (λ (s : List Content). (marker ∷ []) ++ s) lat in
    let b = two ∙ ap₂ ◌++◌ a lon in
    let d = three ∙ ap₂ ◌++◌ b tel in
    let e = four ∙ ap₂ ◌++◌ d msg in
    let all : entries_of c.even.new.self ≡ sequence v =
    c.even.ensures ∙ ap evened (e ∙ regroup (marker ∷ []) (set_of latitude_kind 1 v.latitude) (set_of longitude_kind 2 v.longitude) (set_of telephone_kind 3 v.telephone) (set_of message_kind 6 v.message))
    in
    let r = c.even.new.self in
    let long : length (entries_of r) ≡ r.len = length-take-le r.len r.entries (omega (arith, r.room, r.within)) in
    record {
      entries = all;
      frames = ap (λ (n : ℕ). n / 2) (sym long ∙ ap length all);
      laws = sequence_laws v (card_lawful k);
    }
