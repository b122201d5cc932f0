-- A card that is opened and acted upon keeps its rules.
use Rattle.std.proofs.Common.{◌≡◌, ℕ, ◌-◌, ◌<◌, Bool, true, false, cond, eqb, List, [], ◌∷◌, length, get_or, drop, is_ok, IfOk, Some, None, Ok, Err, Result, refl, ap, ◌∙◌, arith}
use Rattle.std.specs.List.{AllByRecursion}
use Rattle.std.proofs.lemmas.List.{length-drop}
use Rattle.std.proofs.lemmas.Bool.{eqb-true}
use Rattle.coding.specs.Bits.{octet_bits}
use Rattle.coding.specs.Crc.{crc8}
use Rattle.card.specs.Fields.{keeps_first_octet, is_latitude, is_longitude}
use Rattle.card.specs.Card.{CardValue, Lawful, Act, on_ok, opened, blank, unless, answer_to, telephone_answer, message_answer, with_latitude, with_longitude, with_telephone, with_message, card_after, card_after_all}
use Rattle.card.specs.Card.Act.{enter_latitude, enter_longitude, enter_telephone, enter_message, clear_field}
use Rattle.card.specs.Life.{Stands}
use Rattle.card.specs.declared.refusal.CardRefusal.{CardRefusal}
use Rattle.card.specs.declared.refusal.CardRefusal.TheVariants.{NotNineOctets, CheckOctet, FirstOctet, Latitude, Longitude}
use Rattle.card.proofs.Accepted.{accepted_telephone, accepted_message}
use Rattle.card.proofs.Lives.{lives}

-- ---- one act
module _ (c : CardValue) (l : Lawful c) where
  missing_latitude : Lawful (with_latitude None c)
  missing_latitude = record { identifier = l.identifier; latitude = refl; longitude = l.longitude; telephone = l.telephone; message = l.message }

  missing_longitude : Lawful (with_longitude None c)
  missing_longitude = record { identifier = l.identifier; latitude = l.latitude; longitude = refl; telephone = l.telephone; message = l.message }

  missing_telephone : Lawful (with_telephone None c)
  missing_telephone = record { identifier = l.identifier; latitude = l.latitude; longitude = l.longitude; telephone = refl; message = l.message }

  missing_message : Lawful (with_message None c)
  missing_message = record { identifier = l.identifier; latitude = l.latitude; longitude = l.longitude; telephone = l.telephone; message = refl }

  cleared : (a b d : Bool) →
      Lawful (cond a (with_latitude None c) (cond b (with_longitude None c) (cond d (with_telephone None c) (with_message None c))))
  cleared true b d = missing_latitude
  cleared false true d = missing_longitude
  cleared false false true = missing_telephone
  cleared false false false = missing_message

  after_one : (a : Act) → Lawful (card_after c a)
  after_one (enter_latitude p) = by (is_latitude p) refl
    where
      by : (b : Bool) → is_latitude p ≡ b → Lawful (cond (is_ok (unless Latitude b)) (with_latitude (Some p) c) c)
      by true e = record { identifier = l.identifier; latitude = e; longitude = l.longitude; telephone = l.telephone; message = l.message }
      by false e = l
  after_one (enter_longitude p) = by (is_longitude p) refl
    where
      by : (b : Bool) → is_longitude p ≡ b → Lawful (cond (is_ok (unless Longitude b)) (with_longitude (Some p) c) c)
      by true e = record { identifier = l.identifier; latitude = l.latitude; longitude = e; telephone = l.telephone; message = l.message }
      by false e = l
  after_one (enter_telephone t) = by (telephone_answer t) refl
    where
      by : (r : Result (Unit {0}) CardRefusal) → telephone_answer t ≡ r → Lawful (cond (is_ok r) (with_telephone (Some t) c) c)
      by (Ok u) e =
          record { identifier = l.identifier; latitude = l.latitude; longitude = l.longitude; telephone = accepted_telephone t u e; message = l.message }
      by (Err f) e = l
  after_one (enter_message t) = by (message_answer t) refl
    where
      by : (r : Result (Unit {0}) CardRefusal) → message_answer t ≡ r → Lawful (cond (is_ok r) (with_message (Some t) c) c)
      by (Ok u) e =
          record { identifier = l.identifier; latitude = l.latitude; longitude = l.longitude; telephone = l.telephone; message = accepted_message t u e }
      by (Err f) e = l
  after_one (clear_field k) = by (is_ok (answer_to (clear_field k)))
    where
      by : (b : Bool) →
          Lawful (cond b (cond (eqb k 1) (with_latitude None c) (cond (eqb k 2) (with_longitude None c) (cond (eqb k 3) (with_telephone None c) (with_message None c)))) c)
      by true = cleared (eqb k 1) (eqb k 2) (eqb k 3)
      by false = l

after_all : (c : CardValue) (acts : List Act) → Lawful c → Lawful (card_after_all c acts)
unfolding card_after_all
after_all c [] l = l
after_all c (a ∷ acts) l = after_all (card_after c a) acts (after_one c l a)

-- ---- opening
-- nine octets that are accepted are nine, and the eight after the first keep the rule
opened_parts : (nine : List ℕ) (c : CardValue) → opened nine ≡ Ok c →
    (length nine ≡ 9) × (keeps_first_octet (drop 1 nine) ≡ true) × (blank (drop 1 nine) ≡ c)
opened_parts nine c = by (eqb (length nine) 9) refl (eqb (get_or nine 0 0) (crc8 (octet_bits (drop 1 nine)))) (keeps_first_octet (drop 1 nine)) refl
  where
    by : (x : Bool) → eqb (length nine) 9 ≡ x → (y z : Bool) → keeps_first_octet (drop 1 nine) ≡ z →
        on_ok blank (cond x (cond y (cond z (Ok (drop 1 nine)) (Err FirstOctet)) (Err CheckOctet)) (Err NotNineOctets)) ≡ Ok c →
        (length nine ≡ 9) × (keeps_first_octet (drop 1 nine) ≡ true) × (blank (drop 1 nine) ≡ c)
    by true p true true q e = (eqb-true (length nine) 9 p, q, cc)
    by true p true false q e = absurd (never FirstOctet e)
      where
        never : (f : CardRefusal) → on_ok blank (Err f) ≡ Ok c → ⊥
        never f h = let z : ◌≡◌ {A = ℕ} 0 1 = cc in omega arith
    by true p false z q e = absurd (never CheckOctet e)
      where
        never : (f : CardRefusal) → on_ok blank (Err f) ≡ Ok c → ⊥
        never f h = let z : ◌≡◌ {A = ℕ} 0 1 = cc in omega arith
    by false p y z q e = absurd (never NotNineOctets e)
      where
        never : (f : CardRefusal) → on_ok blank (Err f) ≡ Ok c → ⊥
        never f h = let z : ◌≡◌ {A = ℕ} 0 1 = cc in omega arith

module _ (nine : List ℕ) (c : CardValue) (opens : opened nine ≡ Ok c) (acts : List Act) where
  pub stands : Stands (drop 1 nine) acts (card_after_all c acts)
  stands = by (opened nine) opens (lives nine acts)
    where
      by : (r : Result CardValue CardRefusal) → r ≡ Ok c → IfOk r (λ x. Stands (drop 1 nine) acts (card_after_all x acts)) →
          Stands (drop 1 nine) acts (card_after_all c acts)
      by (Ok x) e h = let same : x ≡ c = cc in rw same at h
      by (Err f) e h = absurd (let z : ◌≡◌ {A = ℕ} 0 1 = cc in omega arith)

  pub lawful : Lawful (card_after_all c acts)
  lawful =
      let p = opened_parts nine c opens in
      after_all c acts (blank_lawful (drop 1 nine) p.1 c p.2)
    where
      blank_lawful : (d : List ℕ) → keeps_first_octet d ≡ true → (x : CardValue) → blank d ≡ x → Lawful x
      blank_lawful d h x e =
          rw (← e) (record { identifier = h; latitude = refl; longitude = refl; telephone = refl; message = refl })

  pub eight : length (card_after_all c acts).identifier ≡ 8
  eight = ap length stands.identifier ∙ length-drop 1 nine ∙ ap (λ (n : ℕ). n - 1) (opened_parts nine c opens).0

  pub octets : AllByRecursion (λ o. o < 256) nine → AllByRecursion (λ o. o < 256) (card_after_all c acts).identifier
  octets h = rw stands.identifier (rest nine h)
    where
      rest : (l : List ℕ) → AllByRecursion (λ o. o < 256) l → AllByRecursion (λ o. o < 256) (drop 1 l)
      rest [] a = tt
      rest (o ∷ l) a = a.1
