-- After any acts a card holds in each field what stands there.
use Rattle.std.proofs.Common.{◌≡◌, ℕ, false, cond, List, [], ◌∷◌, drop, is_ok, None, Option, sym, refl, ap, ◌∙◌, arith}
use Rattle.std.proofs.lemmas.Bool.Decides.{nat_tests}
use Rattle.card.specs.Card.{Act, CardValue, answer_to, card_after, card_after_all, blank}
use Rattle.card.specs.Life.{clears, ever_cleared, since_cleared, before, accepted_entries, last_or, standing, latitude_entry, longitude_entry, telephone_entry, message_entry, Stands, Lives}

-- the entry of an act, if it is accepted, before others
abbrev noted : {V : Type 0} → (Act → Option V) → Act → List V → List V
noted entry a rest = cond (is_ok (answer_to a)) (before (entry a) rest) rest

-- a field with its number, what an act enters into it, and how a card holds it
module _ {V : Type 0} (n : ℕ) (entry : Act → Option V) (field : CardValue → Option V) where
  -- what one act makes of the field
  abbrev One : Type 0
  One = (c : CardValue) (a : Act) → field (card_after c a) ≡ cond (clears n a) None (last_or (field c) (noted entry a []))

  noted_last : (o : Option V) (a : Act) (rest : List V) → last_or o (noted entry a rest) ≡ last_or (last_or o (noted entry a [])) rest
  unfolding last_or
  noted_last o a rest = grind (arith)

  -- what many acts make of it
  abbrev many : Option V → List Act → Option V
  many o acts = cond (ever_cleared n acts) (last_or None (accepted_entries entry (since_cleared n acts))) (last_or o (accepted_entries entry acts))

  many_more : (o : Option V) (a : Act) (rest : List Act) → many o (a ∷ rest) ≡ many (cond (clears n a) None (last_or o (noted entry a []))) rest
  unfolding ever_cleared since_cleared accepted_entries
  many_more o a rest = grind (arith, noted_last o a (accepted_entries entry rest))

  many_after : One → (c : CardValue) (acts : List Act) → field (card_after_all c acts) ≡ many (field c) acts
  unfolding card_after_all ever_cleared accepted_entries last_or
  many_after one c [] = refl
  many_after one c (a ∷ rest) = many_after one (card_after c a) rest ∙ ap (λ o. many o rest) (one c a) ∙ sym (many_more (field c) a rest)

  never_cleared : (acts : List Act) → ever_cleared n acts ≡ false → since_cleared n acts ≡ acts
  unfolding ever_cleared since_cleared
  never_cleared [] h = refl
  never_cleared (a ∷ rest) h = grind (arith, never_cleared rest)

  stands_after : One → (c : CardValue) (acts : List Act) → field c ≡ None → field (card_after_all c acts) ≡ standing n entry acts
  stands_after one c acts h = grind (arith, many_after one c acts, never_cleared acts)

one_latitude : One 1 latitude_entry (λ c. c.latitude)
unfolding last_or
one_latitude c a = grind (arith, nat_tests)

one_longitude : One 2 longitude_entry (λ c. c.longitude)
unfolding last_or
one_longitude c a = grind (arith, nat_tests)

one_telephone : One 3 telephone_entry (λ c. c.telephone)
unfolding last_or
one_telephone c a = grind (arith, nat_tests)

one_message : One 4 message_entry (λ c. c.message)
unfolding last_or
one_message c a = grind (arith, nat_tests)

one_identifier : (c : CardValue) (a : Act) → (card_after c a).identifier ≡ c.identifier
one_identifier c a = grind (arith, nat_tests)

same_identifier : (c : CardValue) (acts : List Act) → (card_after_all c acts).identifier ≡ c.identifier
unfolding card_after_all
same_identifier c [] = refl
same_identifier c (a ∷ rest) = same_identifier (card_after c a) rest ∙ one_identifier c a

stands : (d : List ℕ) (acts : List Act) → Stands d acts (card_after_all (blank d) acts)
stands d acts = record {
  identifier = same_identifier (blank d) acts;
  latitude = stands_after 1 latitude_entry (λ c. c.latitude) one_latitude (blank d) acts refl;
  longitude = stands_after 2 longitude_entry (λ c. c.longitude) one_longitude (blank d) acts refl;
  telephone = stands_after 3 telephone_entry (λ c. c.telephone) one_telephone (blank d) acts refl;
  message = stands_after 4 message_entry (λ c. c.message) one_message (blank d) acts refl;
}

pub lives : (nine : List ℕ) → Lives nine
lives nine acts = grind (arith, stands (drop 1 nine) acts)
