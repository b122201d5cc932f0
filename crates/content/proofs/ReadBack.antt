-- The laws of every card's sequence.
use Rattle.std.proofs.Common.{◌≡◌, ℕ, suc, ◌+◌, ◌*◌, ◌/◌, ◌%◌, ◌^◌, ◌<◌, ◌≤◌, Bool, true, false, cond, ◌&&◌, eqb, ltb, leb, List, [], ◌∷◌, ◌++◌, map, length, Some, None, Option, sym, refl, ap, ◌∙◌, ap₂, ⊎_elim, mul-le-mul_right, arith, lit<}
use Rattle.std.proofs.lemmas.List.{length-append, append-nil, map-append}
use Rattle.std.proofs.lemmas.Bool.{and_parts, leb-true, and_from, and_left, and_right, le-leb, lt-leb, lt-ltb, cond-true, cond-false, cond_both, cases_eq, eq-eqb, ne_eqb}
use Rattle.card.specs.Card.{CardValue, Lawful}
use Rattle.std.specs.List.{AllByRecursion}
use Rattle.std.proofs.ByRecursion.{All-append}
use Rattle.card.specs.Fields.{missing_or, is_coordinate}
use Rattle.card.specs.declared.fields.Coordinate.{Coordinate}
use Rattle.content.specs.Kind.{Kind, taken_apart, TakesApart}
use Rattle.content.specs.Kinds.{latitude_kind, longitude_kind, telephone_kind, message_kind, telephone_lettering, message_lettering, laid_out}
use Rattle.content.specs.Sequence.{numbered, set_of, marker, field_sets, evened, sequence}
use Rattle.content.specs.Laws.{rises_from, words_under, field_from, HasRoom, SequenceLaws}
use Rattle.content.specs.declared.entry.Content.{Content}
use Rattle.coding.proofs.Groups.{length_groups, group_bits_bits, groups_below}
use Rattle.content.proofs.TakingApart.{kinds}

module _ (low high : ℕ) where
  pub under_append : (xs ys : List Content) → words_under low high (xs ++ ys) ≡ words_under low high xs ++ words_under low high ys
  unfolding words_under
  under_append [] ys = refl
  under_append (x ∷ xs) ys = go (leb low x.id && leb x.id high) (under_append xs ys)
    where
      go : (b : Bool) → words_under low high (xs ++ ys) ≡ words_under low high xs ++ words_under low high ys → cond b (x.word ∷ words_under low high (xs ++ ys)) (words_under low high (xs ++ ys)) ≡ cond b (x.word ∷ words_under low high xs) (words_under low high xs) ++ words_under low high ys
      go true e = ap (λ (r : List ℕ). x.word ∷ r) e
      go false e = e

  -- a set of IDs that lies within, below or above
  under_within : (first : ℕ) (ws : List ℕ) → low ≤ first → first + length ws ≤ suc high → words_under low high (numbered first ws) ≡ ws
  unfolding words_under numbered
  under_within first [] l h = refl
  under_within first (w ∷ ws) l h =
      cond-true _ _ _ (and_from (leb low first) (leb first high) (le-leb low first l) (le-leb first high (omega arith)))
      ∙ ap (λ (r : List ℕ). w ∷ r) (under_within (suc first) ws (omega arith) (omega arith))

  under_below : (first : ℕ) (ws : List ℕ) → first + length ws ≤ low → words_under low high (numbered first ws) ≡ []
  unfolding words_under numbered
  under_below first [] l = refl
  under_below first (w ∷ ws) l =
      cond-false _ _ _ (and_left (leb low first) (leb first high) (lt-leb low first (omega arith))) ∙ under_below (suc first) ws (omega arith)

  under_above : (first : ℕ) (ws : List ℕ) → high < first → words_under low high (numbered first ws) ≡ []
  unfolding words_under numbered
  under_above first [] l = refl
  under_above first (w ∷ ws) l =
      cond-false _ _ _ (and_right (leb low first) (leb first high) (lt-leb first high l)) ∙ under_above (suc first) ws (omega arith)

-- the words of a field, none where it is missing
abbrev field_words : {V : Type 0} → Kind V → Option V → List ℕ
field_words k None = []
field_words k (Some v) = k.words v

length_numbered : (id : ℕ) (ws : List ℕ) → length (numbered id ws) ≡ length ws
unfolding numbered
length_numbered id [] = refl
length_numbered id (w ∷ ws) = ap suc (length_numbered (suc id) ws)

-- IDs rise through a set and go on rising
rises_set : (n first : ℕ) (ws rest : List ℕ) → n < first → ((m : ℕ) → m < first + length ws → rises_from m rest ≡ true) → rises_from n (map (λ x. x.id) (numbered first ws) ++ rest) ≡ true
unfolding numbered rises_from
rises_set n first [] rest h next = next n (omega arith)
rises_set n first (w ∷ ws) rest h next = and_from (ltb n first) _ (lt-ltb n first h) (rises_set first (suc first) ws rest (omega arith) (λ m l. next m (omega arith)))

-- a kind whose values all have n words, under the IDs from `first` on
module _ {V : Type 0} (k : Kind V) (first n : ℕ) (count : (v : V) → length (k.words v) ≡ n) where
  length_set : (o : Option V) → length (set_of k first o) ≤ n
  length_set None = omega arith
  length_set (Some v) = omega (arith, length_numbered first (k.words v), count v)

  rises_field : (m : ℕ) (o : Option V) (rest : List ℕ) → m < first → ((l : ℕ) → l < first + n → rises_from l rest ≡ true) → rises_from m (map (λ x. x.id) (set_of k first o) ++ rest) ≡ true
  rises_field m None rest h next = next m (omega arith)
  rises_field m (Some v) rest h next = rises_set m first (k.words v) rest h (λ l q. next l (omega (arith, count v)))

  within : (low high : ℕ) (o : Option V) → low ≤ first → first + n ≤ suc high → words_under low high (set_of k first o) ≡ field_words k o
  unfolding words_under
  within low high None l h = refl
  within low high (Some v) l h = under_within low high first (k.words v) l (omega (arith, count v))

  below : (low high : ℕ) (o : Option V) → first + n ≤ low → words_under low high (set_of k first o) ≡ []
  unfolding words_under
  below low high None h = refl
  below low high (Some v) h = under_below low high first (k.words v) (omega (arith, count v))

  above : (low high : ℕ) (o : Option V) → high < first → words_under low high (set_of k first o) ≡ []
  unfolding words_under
  above low high None h = refl
  above low high (Some v) h = under_above low high first (k.words v) h

  -- a lawful field is read back from its words
  from_words : 0 < n → TakesApart k → (o : Option V) → missing_or k.lawful o ≡ true → field_from k (field_words k o) ≡ o
  from_words some rule None l = refl
  from_words some rule (Some v) l = go (k.words v) (count v) ((rule.some (k.words v) v).1 (l, refl))
    where
      go : (ws : List ℕ) → length ws ≡ n → taken_apart k ws ≡ Some v → field_from k ws ≡ Some v
      go [] e t = absurd (omega arith)
      go (w ∷ ws) e t = t

telephone_count : (t : List ℕ) → length (telephone_kind.words t) ≡ 3
telephone_count t = length_groups 24 3 _

message_count : (t : List ℕ) → length (message_kind.words t) ≡ 7
message_count t = length_groups 24 7 _

module _ (c : CardValue) where
  lat : List Content
  lat = set_of latitude_kind 1 c.latitude

  lon : List Content
  lon = set_of longitude_kind 2 c.longitude

  tel : List Content
  tel = set_of telephone_kind 3 c.telephone

  msg : List Content
  msg = set_of message_kind 6 c.message

  -- the words under IDs above 0, set by set: the markers are not among them
  under_sets : (low high : ℕ) → 0 < low → words_under low high (sequence c) ≡ words_under low high (field_sets c)
  unfolding words_under
  under_sets low high h =
      let none : (leb low 0 && leb 0 high) ≡ false = and_left (leb low 0) (leb 0 high) (lt-leb low 0 h) in
      let skip : (xs : List Content) → words_under low high (marker ∷ xs) ≡ words_under low high xs = λ xs. cond-false _ _ _ none in
      cond_both (eqb (length (marker ∷ field_sets c) % 2) 1) ((marker ∷ field_sets c) ++ (marker ∷ [])) (marker ∷ field_sets c) (λ xs. words_under low high xs ≡ words_under low high (field_sets c))
      (λ _. under_append low high (marker ∷ field_sets c) (marker ∷ []) ∙ ap₂ ◌++◌ (skip (field_sets c)) (skip []) ∙ append-nil (words_under low high (field_sets c)))
      (λ _. skip (field_sets c))

  parts : (low high : ℕ) → words_under low high (field_sets c) ≡ words_under low high lat ++ (words_under low high lon ++ (words_under low high tel ++ words_under low high msg))
  unfolding lat lon tel msg
  parts low high =
      under_append low high lat (lon ++ (tel ++ msg))
      ∙ ap (λ (r : List ℕ). words_under low high lat ++ r)
      (under_append low high lon (tel ++ msg) ∙ ap (λ (r : List ℕ). words_under low high lon ++ r) (under_append low high tel msg))

  -- of the four sets, only one lies under a field's own IDs
  four : (low high : ℕ) (a b d e : List ℕ) → 0 < low → words_under low high lat ≡ a → words_under low high lon ≡ b → words_under low high tel ≡ d → words_under low high msg ≡ e
      → words_under low high (sequence c) ≡ a ++ (b ++ (d ++ e))
  four low high a b d e h p q r s = under_sets low high h ∙ parts low high ∙ ap₂ ◌++◌ p (ap₂ ◌++◌ q (ap₂ ◌++◌ r s))

  latitude_words : words_under 1 1 (sequence c) ≡ field_words latitude_kind c.latitude
  unfolding lat lon tel msg
  latitude_words =
      four 1 1 (field_words latitude_kind c.latitude) [] [] [] (omega arith) (within latitude_kind 1 1 (λ v. refl) 1 1 c.latitude (omega arith) (omega arith))
      (above longitude_kind 2 1 (λ v. refl) 1 1 c.longitude (omega arith)) (above telephone_kind 3 3 telephone_count 1 1 c.telephone (omega arith))
      (above message_kind 6 7 message_count 1 1 c.message (omega arith))
      ∙ append-nil (field_words latitude_kind c.latitude)

  longitude_words : words_under 2 2 (sequence c) ≡ field_words longitude_kind c.longitude
  unfolding lat lon tel msg
  longitude_words =
      four 2 2 [] (field_words longitude_kind c.longitude) [] [] (omega arith) (below latitude_kind 1 1 (λ v. refl) 2 2 c.latitude (omega arith))
      (within longitude_kind 2 1 (λ v. refl) 2 2 c.longitude (omega arith) (omega arith)) (above telephone_kind 3 3 telephone_count 2 2 c.telephone (omega arith))
      (above message_kind 6 7 message_count 2 2 c.message (omega arith))
      ∙ append-nil (field_words longitude_kind c.longitude)

  telephone_words : words_under 3 5 (sequence c) ≡ field_words telephone_kind c.telephone
  unfolding lat lon tel msg
  telephone_words =
      four 3 5 [] [] (field_words telephone_kind c.telephone) [] (omega arith) (below latitude_kind 1 1 (λ v. refl) 3 5 c.latitude (omega arith))
      (below longitude_kind 2 1 (λ v. refl) 3 5 c.longitude (omega arith)) (within telephone_kind 3 3 telephone_count 3 5 c.telephone (omega arith) (omega arith))
      (above message_kind 6 7 message_count 3 5 c.message (omega arith))
      ∙ append-nil (field_words telephone_kind c.telephone)

  message_words : words_under 6 12 (sequence c) ≡ field_words message_kind c.message
  unfolding lat lon tel msg
  message_words =
      four 6 12 [] [] [] (field_words message_kind c.message) (omega arith) (below latitude_kind 1 1 (λ v. refl) 6 12 c.latitude (omega arith))
      (below longitude_kind 2 1 (λ v. refl) 6 12 c.longitude (omega arith)) (below telephone_kind 3 3 telephone_count 6 12 c.telephone (omega arith))
      (within message_kind 6 7 message_count 6 12 c.message (omega arith) (omega arith))

  -- at most twelve words
  sets_length : length (field_sets c) ≤ 12
  unfolding lat lon tel msg
  sets_length =
      omega (
        arith,
        length-append lat (lon ++ (tel ++ msg)),
        length-append lon (tel ++ msg),
        length-append tel msg,
        length_set latitude_kind 1 1 (λ v. refl) c.latitude,
        length_set longitude_kind 2 1 (λ v. refl) c.longitude,
        length_set telephone_kind 3 3 telephone_count c.telephone,
        length_set message_kind 6 7 message_count c.message,
      )

  -- set after set, each above the one before
  rise : rises_from 0 (map (λ x. x.id) (field_sets c)) ≡ true
  unfolding lat lon tel msg rises_from
  rise =
      let id : Content → ℕ = λ x. x.id in
      ap (rises_from 0)
      (map-append id lat (lon ++ (tel ++ msg))
      ∙ ap (λ (r : List ℕ). map id lat ++ r) (map-append id lon (tel ++ msg)
      ∙ ap (λ (r : List ℕ). map id lon ++ r) (map-append id tel msg
      ∙ ap (λ (r : List ℕ). map id tel ++ r) (sym (append-nil (map id msg))))))
      ∙ rises_field latitude_kind 1 1 (λ v. refl) 0 c.latitude _ (omega arith)
      (λ l p. rises_field longitude_kind 2 1 (λ v. refl) l c.longitude _ p
      (λ m q. rises_field telephone_kind 3 3 telephone_count m c.telephone _ q
      (λ n r. rises_field message_kind 6 7 message_count n c.message [] r (λ k t. refl))))

-- a list of 1 to 13 entries evened
evened_length : (xs : List Content) → 1 ≤ length xs → length xs ≤ 13 → (length (evened xs) % 2 ≡ 0) × (1 ≤ length (evened xs) / 2) × (length (evened xs) / 2 ≤ 7)
evened_length xs l h = ⊎_elim odd even (cases_eq (length xs % 2) 1)
  where
    odd : length xs % 2 ≡ 1 → (length (evened xs) % 2 ≡ 0) × (1 ≤ length (evened xs) / 2) × (length (evened xs) / 2 ≤ 7)
    odd e =
        let n : length (evened xs) ≡ length xs + 1 = ap length (cond-true _ (xs ++ (marker ∷ [])) xs (eq-eqb (length xs % 2) 1 e)) ∙ length-append xs (marker ∷ []) in
        (omega (arith, n, e), omega (arith, n, e), omega (arith, n, e))

    even : (length xs % 2 ≡ 1 → ⊥) → (length (evened xs) % 2 ≡ 0) × (1 ≤ length (evened xs) / 2) × (length (evened xs) / 2 ≤ 7)
    even e =
        let n : length (evened xs) ≡ length xs = ap length (cond-false _ (xs ++ (marker ∷ [])) xs (ne_eqb (length xs % 2) 1 e)) in
        (omega (arith, n, e), omega (arith, n, e), omega (arith, n, e))

-- words that have room, under IDs up to 12
room_numbered : (first : ℕ) (ws : List ℕ) → first + length ws ≤ 32 → AllByRecursion (λ w. w < 2 ^ 24) ws → AllByRecursion HasRoom (numbered first ws)
unfolding numbered
room_numbered first [] h a = tt
room_numbered first (w ∷ ws) h a = (record { id = omega arith; word = a.0 }, room_numbered (suc first) ws (omega arith) a.1)

room_set : {V : Type 0} (k : Kind V) (first : ℕ) (o : Option V) → ((v : V) → k.lawful v ≡ true → (first + length (k.words v) ≤ 32) × AllByRecursion (λ w. w < 2 ^ 24) (k.words v))
    → missing_or k.lawful o ≡ true → AllByRecursion HasRoom (set_of k first o)
room_set k first None r l = tt
room_set k first (Some v) r l = let p = r v l in room_numbered first (k.words v) p.0 p.1

room_coordinate : (most n : ℕ) (p : Coordinate) → (most * 10000 + 5999) * 2 ^ n + 1 < 2 ^ 24 → is_coordinate most p ≡ true → (p.degrees * 10000 + p.hundredths) * 2 ^ n + p.hemisphere < 2 ^ 24
room_coordinate most n p small h =
    let a = and_parts (leb p.degrees most) (leb p.hundredths 5999 && leb p.hemisphere 1) h in
    let b = and_parts (leb p.hundredths 5999) (leb p.hemisphere 1) a.1 in
    let d : p.degrees ≤ most = leb-true p.degrees most a.0 in
    let s : p.hundredths ≤ 5999 = leb-true p.hundredths 5999 b.0 in
    let e : p.hemisphere ≤ 1 = leb-true p.hemisphere 1 b.1 in
    let m : p.degrees * 10000 + p.hundredths ≤ most * 10000 + 5999 = omega arith in
    omega (arith, mul-le-mul_right (2 ^ n) m)

room_sequence : (c : CardValue) → Lawful c → AllByRecursion HasRoom (sequence c)
room_sequence c l =
    let lat = room_set latitude_kind 1 c.latitude (λ p h. (omega arith, (room_coordinate 90 4 p (lit< tt) h, tt))) l.latitude in
    let lon = room_set longitude_kind 2 c.longitude (λ p h. (omega arith, (room_coordinate 180 3 p (lit< tt) h, tt))) l.longitude in
    let tel = room_set telephone_kind 3 c.telephone (λ t h. (omega (arith, telephone_count t), groups_below 24 3 _ (group_bits_bits 4 (laid_out telephone_lettering t)))) l.telephone in
    let msg = room_set message_kind 6 c.message (λ t h. (omega (arith, message_count t), groups_below 24 7 _ (group_bits_bits 7 (laid_out message_lettering t)))) l.message in
    let first : HasRoom marker = record { id = lit< tt; word = lit< tt } in
    let all : AllByRecursion HasRoom (marker ∷ field_sets c) = (first, All-append HasRoom (set_of latitude_kind 1 c.latitude) _ lat (All-append HasRoom (set_of longitude_kind 2 c.longitude) _ lon (All-append HasRoom (set_of telephone_kind 3 c.telephone) (set_of message_kind 6 c.message) tel msg))) in
    cond_both (eqb (length (marker ∷ field_sets c) % 2) 1) ((marker ∷ field_sets c) ++ (marker ∷ [])) (marker ∷ field_sets c) (AllByRecursion HasRoom)
    (λ _. All-append HasRoom (marker ∷ field_sets c) (marker ∷ []) all (first, tt)) (λ _. all)

pub sequence_laws : (c : CardValue) → Lawful c → SequenceLaws c
sequence_laws c l =
    let n = evened_length (marker ∷ field_sets c) (omega arith) (omega (arith, sets_length c)) in
    record {
      even = n.0;
      some = n.1;
      most = n.2;
      rise = rise c;
      latitude = ap (field_from latitude_kind) (latitude_words c) ∙ from_words latitude_kind 1 1 (λ v. refl) (omega arith) kinds.latitude c.latitude l.latitude;
      longitude = ap (field_from longitude_kind) (longitude_words c) ∙ from_words longitude_kind 2 1 (λ v. refl) (omega arith) kinds.longitude c.longitude l.longitude;
      telephone = ap (field_from telephone_kind) (telephone_words c) ∙ from_words telephone_kind 3 3 telephone_count (omega arith) kinds.telephone c.telephone l.telephone;
      message = ap (field_from message_kind) (message_words c) ∙ from_words message_kind 6 7 message_count (omega arith) kinds.message c.message l.message;
      room = room_sequence c l;
    }
