-- The one rule of every kind of field.
use Rattle.std.proofs.Common.{◌≡◌, ℕ, zero, suc, ◌+◌, ◌-◌, ◌*◌, ◌/◌, ◌%◌, ◌^◌, ◌<◌, ◌≤◌, Bool, true, false, cond, ◌&&◌, eqb, leb, List, [], ◌∷◌, ◌++◌, map, length, replicate, Some, None, Option, sym, refl, ap, ◌∙◌, div-add-mod', arith, lit<}
use lib.Arith.{digits_div, digits_mod}
use Rattle.std.specs.List.{AllByRecursion}
use Rattle.std.proofs.ByRecursion.{All-map, All-weaker, All-append}
use Rattle.std.proofs.lemmas.Bool.{eq-eqb, ne_eqb, eqb-true, and_parts, and_from, leb-true, and_right, cond-true, cond-false}
use Rattle.std.proofs.lemmas.Bool.Decides.{nat_tests}
use Rattle.coding.specs.Bits.{group_bits, groups}
use Rattle.coding.specs.Distance.{distance}
use Rattle.coding.proofs.Distances.{distance_self, distance_zero}
use Rattle.card.specs.Fields.{each, length_within, is_coordinate, is_symbol, extension_inside, is_telephone, is_printing, is_message}
use Rattle.card.specs.declared.fields.Coordinate.{Coordinate}
use Rattle.content.specs.Kind.{Kind, taken_apart, TakesApart}
use Rattle.content.specs.Kinds.{coordinate_kind, latitude_kind, longitude_kind, Lettering, laid_out, before_padding, lettered_kind, telephone_lettering, message_lettering, telephone_kind, message_kind, KindsTakeApart}
use Rattle.content.proofs.LaidOut.{length_laid}
use Rattle.coding.proofs.Groups.{length_group_bits, group_bits_bits, groups_of_bits, bits_of_groups}

-- a lawful value comes back from its words
abbrev pub Back : {V : Type 0} → Kind V → Type 0
Back {V} k = (v : V) → k.lawful v ≡ true → k.value (k.words v) ≡ v

module _ {V : Type 0} (k : Kind V) (back : Back k) (ws : List ℕ) where
  test : Bool
  test = k.lawful (k.value ws) && eqb (distance (k.words (k.value ws)) ws) 0

  held : test ≡ true → (k.lawful (k.value ws) ≡ true) × (k.words (k.value ws) ≡ ws)
  unfolding test
  held h =
      let p = and_parts (k.lawful (k.value ws)) (eqb (distance (k.words (k.value ws)) ws) 0) h in
      (p.0, distance_zero (k.words (k.value ws)) ws (eqb-true _ 0 p.1))

  there : (v : V) → taken_apart k ws ≡ Some v → (k.lawful v ≡ true) × (k.words v ≡ ws)
  unfolding taken_apart test
  there v e = go test refl
    where
      go : (t : Bool) → test ≡ t → (k.lawful v ≡ true) × (k.words v ≡ ws)
      go true h =
          let p = held h in
          let is : Some (k.value ws) ≡ Some v = sym (cond-true test (Some (k.value ws)) None h) ∙ e in
          let g : k.value ws ≡ v = cc in
          (ap k.lawful (sym g) ∙ p.0, ap k.words (sym g) ∙ p.1)
      go false h =
          let is : ◌≡◌ {A = Option V} None (Some v) = sym (cond-false test (Some (k.value ws)) None h) ∙ e in
          let z : ◌≡◌ {A = ℕ} 0 1 = cc in
          absurd (omega arith)

  here : (v : V) → (k.lawful v ≡ true) × (k.words v ≡ ws) → taken_apart k ws ≡ Some v
  unfolding taken_apart test
  here v p =
      let g : k.value ws ≡ v = ap k.value (sym p.1) ∙ back v p.0 in
      let w : k.words (k.value ws) ≡ ws = ap k.words g ∙ p.1 in
      let d : distance (k.words (k.value ws)) ws ≡ 0 = ap (λ (x : List ℕ). distance x ws) w ∙ distance_self ws in
      let h : test ≡ true = and_from _ _ (ap k.lawful g ∙ p.0) (eq-eqb _ 0 d) in
      cond-true test (Some (k.value ws)) None h ∙ ap Some g

  nowhere : taken_apart k ws ≡ None → (v : V) → k.lawful v ≡ true → k.words v ≡ ws → ⊥
  nowhere e v l w =
      let is : ◌≡◌ {A = Option V} None (Some v) = sym e ∙ here v (l, w) in
      let z : ◌≡◌ {A = ℕ} 0 1 = cc in
      omega arith

  refused : ((v : V) → k.lawful v ≡ true → k.words v ≡ ws → ⊥) → taken_apart k ws ≡ None
  unfolding taken_apart test
  refused n = go test refl
    where
      go : (t : Bool) → test ≡ t → taken_apart k ws ≡ None
      go true h = let p = held h in absurd (n (k.value ws) p.0 p.1)
      go false h = cond-false test (Some (k.value ws)) None h

pub takes_apart : {V : Type 0} (k : Kind V) → Back k → TakesApart k
takes_apart k back = record {
  some = λ ws v. (there k back ws v, here k back ws v);
  none = λ ws. (nowhere k back ws, refused k back ws);
}

coordinate_back : (most n : ℕ) → 1 < 2 ^ n → Back (coordinate_kind (is_coordinate most) n)
coordinate_back most n l p h =
    let a = and_parts (leb p.degrees most) (leb p.hundredths 5999 && leb p.hemisphere 1) h in
    let b = and_parts (leb p.hundredths 5999) (leb p.hemisphere 1) a.1 in
    let s : p.hundredths ≤ 5999 = leb-true p.hundredths 5999 b.0 in
    let t : p.hemisphere < 2 ^ n = omega (arith, leb-true p.hemisphere 1 b.1) in
    let m = p.degrees * 10000 + p.hundredths in
    let q : (m * 2 ^ n + p.hemisphere) / 2 ^ n ≡ m = digits_div m t in
    let r : (m * 2 ^ n + p.hemisphere) % 2 ^ n ≡ p.hemisphere = digits_mod m t in
    let d : (m * 2 ^ n + p.hemisphere) / 2 ^ n / 10000 ≡ p.degrees = ap (λ x. x / 10000) q ∙ omega arith in
    let u : (m * 2 ^ n + p.hemisphere) / 2 ^ n % 10000 ≡ p.hundredths = ap (λ x. x % 10000) q ∙ omega arith in
    λ i. record { degrees = d i; hundredths = u i; hemisphere = r i }

-- what a lettering asks of a character
abbrev Fitting : Lettering → ℕ → Type 0
Fitting l s = (l.character (l.code s) ≡ s) × (l.code s < 2 ^ l.width) × (l.code s ≡ l.padding → ⊥)

all_replicate : (P : ℕ → Type 0) (n x : ℕ) → P x → AllByRecursion P (replicate n x)
all_replicate P zero x h = tt
all_replicate P (suc n) x h = (h, all_replicate P n x h)

before_replicate : (p n : ℕ) → before_padding p (replicate n p) ≡ []
unfolding before_padding
before_replicate p zero = refl
before_replicate p (suc n) = rw (eq-eqb p p refl)

before_padded : (p n : ℕ) (xs : List ℕ) → AllByRecursion (λ x. x ≡ p → ⊥) xs → before_padding p (xs ++ replicate n p) ≡ xs
unfolding before_padding
before_padded p n [] a = before_replicate p n
before_padded p n (x ∷ xs) a = rw (ne_eqb x p a.0) (ap (λ l. x ∷ l) (before_padded p n xs a.1))

module _ (lawful : List ℕ → Bool) (l : Lettering) (t : List ℕ) (padded : l.padding < 2 ^ l.width) (whole : l.room * l.width ≡ l.count * 24)
    (short : length t ≤ l.room) (fits : AllByRecursion (Fitting l) t) where
  below : AllByRecursion (λ x. x < 2 ^ l.width) (laid_out l t)
  below =
      All-append _ (map l.code t) (replicate (l.room - length t) l.padding)
      (All-map (λ x. x < 2 ^ l.width) l.code t (All-weaker (Fitting l) (λ s. l.code s < 2 ^ l.width) (λ s f. f.1) t fits))
      (all_replicate (λ x. x < 2 ^ l.width) (l.room - length t) l.padding padded)

  long : length (laid_out l t) ≡ l.room
  long = length_laid l t short

  coded_back : (t : List ℕ) → AllByRecursion (Fitting l) t → map l.character (map l.code t) ≡ t
  coded_back [] a = refl
  coded_back (s ∷ t) a = let e : l.character (l.code s) ≡ s = a.0.0 in let f = coded_back t a.1 in cc

  lettered_back : (lettered_kind lawful l).value ((lettered_kind lawful l).words t) ≡ t
  lettered_back =
      let filled : length (group_bits l.width (laid_out l t)) ≡ l.count * 24 = length_group_bits l.width (laid_out l t) ∙ ap (λ (n : ℕ). n * l.width) long ∙ whole in
      ap (λ (b : List ℕ). map l.character (before_padding l.padding (groups l.width l.room b)))
      (bits_of_groups 24 l.count (group_bits l.width (laid_out l t)) filled (group_bits_bits l.width (laid_out l t)))
      ∙ ap (λ (g : List ℕ). map l.character (before_padding l.padding g)) (groups_of_bits l.width l.room (laid_out l t) long below)
      ∙ ap (map l.character) (before_padded l.padding (l.room - length t) (map l.code t)
      (All-map (λ x. x ≡ l.padding → ⊥) l.code t (All-weaker (Fitting l) (λ s. l.code s ≡ l.padding → ⊥) (λ s f. f.2) t fits)))
      ∙ coded_back t fits

each_all : (p : ℕ → Bool) (xs : List ℕ) → each p xs ≡ true → AllByRecursion (λ x. p x ≡ true) xs
unfolding each
each_all p [] h = tt
each_all p (x ∷ xs) h = let q = and_parts (p x) (each p xs) h in (q.0, each_all p xs q.1)

symbol_fits : (s : ℕ) → is_symbol s ≡ true → Fitting telephone_lettering s
symbol_fits s h = (grind (arith, nat_tests), grind (arith, nat_tests), λ e. grind (arith, nat_tests))

printing_fits : (s : ℕ) → is_printing s ≡ true → Fitting message_lettering s
printing_fits s h = (refl, grind (arith, nat_tests), λ e. grind (arith, nat_tests))

telephone_back : Back telephone_kind
telephone_back t h =
    let a = and_parts (length_within 18 t) (each is_symbol t && extension_inside t) h in
    let n = and_parts (leb 1 (length t)) (leb (length t) 18) a.0 in
    let e = and_parts (each is_symbol t) (extension_inside t) a.1 in
    lettered_back is_telephone telephone_lettering t (lit< tt) refl (leb-true (length t) 18 n.1)
    (All-weaker (λ s. is_symbol s ≡ true) (Fitting telephone_lettering) symbol_fits t (each_all is_symbol t e.0))

message_back : Back message_kind
message_back t h =
    let a = and_parts (length_within 24 t) (each is_printing t) h in
    let n = and_parts (leb 1 (length t)) (leb (length t) 24) a.0 in
    lettered_back is_message message_lettering t (lit< tt) refl (leb-true (length t) 24 n.1)
    (All-weaker (λ s. is_printing s ≡ true) (Fitting message_lettering) printing_fits t (each_all is_printing t a.1))

pub kinds : KindsTakeApart
kinds = record {
  latitude = takes_apart latitude_kind (coordinate_back 90 4 (lit< tt));
  longitude = takes_apart longitude_kind (coordinate_back 180 3 (lit< tt));
  telephone = takes_apart telephone_kind telephone_back;
  message = takes_apart message_kind message_back;
}

-- a word always is the word of the coordinate that it would be, so that only the rule on coordinates is left to ask
pub coordinate_apart : (lawful : Coordinate → Bool) (n w : ℕ)
    → taken_apart (coordinate_kind lawful n) (w ∷ []) ≡ cond (lawful ((coordinate_kind lawful n).value (w ∷ []))) (Some ((coordinate_kind lawful n).value (w ∷ []))) None
unfolding taken_apart
coordinate_apart lawful n w =
    let whole : w / 2 ^ n / 10000 * 10000 + w / 2 ^ n % 10000 ≡ w / 2 ^ n = div-add-mod' (w / 2 ^ n) 10000 in
    let same : (w / 2 ^ n / 10000 * 10000 + w / 2 ^ n % 10000) * 2 ^ n + w % 2 ^ n ≡ w = ap (λ (m : ℕ). m * 2 ^ n + w % 2 ^ n) whole ∙ div-add-mod' w (2 ^ n) in
    let d : distance ((coordinate_kind lawful n).words ((coordinate_kind lawful n).value (w ∷ []))) (w ∷ []) ≡ 0 = ap (λ (x : ℕ). distance (x ∷ []) (w ∷ [])) same ∙ distance_self (w ∷ []) in
    go (lawful ((coordinate_kind lawful n).value (w ∷ []))) (eqb (distance ((coordinate_kind lawful n).words ((coordinate_kind lawful n).value (w ∷ []))) (w ∷ [])) 0) (eq-eqb _ 0 d)
  where
    go : (b e : Bool) → e ≡ true → cond (b && e) (Some ((coordinate_kind lawful n).value (w ∷ []))) None ≡ cond b (Some ((coordinate_kind lawful n).value (w ∷ []))) None
    go true true h = refl
    go true false h = let z : ◌≡◌ {A = ℕ} 0 1 = cc in absurd (omega arith)
    go false e h = refl

-- words taken apart step by step: the value that they would have is not lawful, has these very words, or has others
module _ {V : Type 0} (k : Kind V) (ws : List ℕ) where
  pub apart_unlawful : k.lawful (k.value ws) ≡ false → taken_apart k ws ≡ None
  unfolding taken_apart
  apart_unlawful h = cond-false _ (Some (k.value ws)) None (ap (λ (b : Bool). b && eqb (distance (k.words (k.value ws)) ws) 0) h)

  pub apart_same : (v : V) → v ≡ k.value ws → k.lawful v ≡ true → k.words v ≡ ws → Some v ≡ taken_apart k ws
  unfolding taken_apart
  apart_same v e l w =
      let d : distance (k.words (k.value ws)) ws ≡ 0 = ap (λ (x : List ℕ). distance x ws) (ap k.words (sym e) ∙ w) ∙ distance_self ws in
      ap Some e ∙ sym (cond-true _ (Some (k.value ws)) None (and_from _ _ (ap k.lawful (sym e) ∙ l) (eq-eqb _ 0 d)))

  pub apart_other : (v : V) → v ≡ k.value ws → (k.words v ≡ ws → ⊥) → taken_apart k ws ≡ None
  unfolding taken_apart
  apart_other v e n =
      let other : eqb (distance (k.words (k.value ws)) ws) 0 ≡ false = ne_eqb _ 0 (λ z. n (ap k.words e ∙ distance_zero (k.words (k.value ws)) ws z)) in
      cond-false _ (Some (k.value ws)) None (and_right (k.lawful (k.value ws)) (eqb (distance (k.words (k.value ws)) ws) 0) other)

-- the text that words would have, where it is asked whether it is lawful
module _ (k : Kind (List ℕ)) (ws : List ℕ) where
  pub none_apart : None ≡ cond (k.lawful (k.value ws)) (Some (k.value ws)) None → taken_apart k ws ≡ None
  none_apart e = go (k.lawful (k.value ws)) refl
    where
      go : (t : Bool) → k.lawful (k.value ws) ≡ t → taken_apart k ws ≡ None
      go true h =
          let is : ◌≡◌ {A = Option (List ℕ)} None (Some (k.value ws)) = e ∙ cond-true (k.lawful (k.value ws)) (Some (k.value ws)) None h in
          let z : ◌≡◌ {A = ℕ} 0 1 = cc in
          absurd (omega arith)
      go false h = apart_unlawful k ws h

  pub some_asked : (v : List ℕ) → Some v ≡ cond (k.lawful (k.value ws)) (Some (k.value ws)) None → (v ≡ k.value ws) × (k.lawful v ≡ true)
  some_asked v e = go (k.lawful (k.value ws)) refl
    where
      go : (t : Bool) → k.lawful (k.value ws) ≡ t → (v ≡ k.value ws) × (k.lawful v ≡ true)
      go true h =
          let is : ◌≡◌ {A = Option (List ℕ)} (Some v) (Some (k.value ws)) = e ∙ cond-true (k.lawful (k.value ws)) (Some (k.value ws)) None h in
          let g : v ≡ k.value ws = cc in
          (g, ap k.lawful g ∙ h)
      go false h =
          let is : ◌≡◌ {A = Option (List ℕ)} (Some v) None = e ∙ cond-false (k.lawful (k.value ws)) (Some (k.value ws)) None h in
          let z : ◌≡◌ {A = ℕ} 0 1 = cc in
          absurd (omega arith)

-- the characters of the groups that words are cut into are the text that they would have
pub value_is : (lawful : List ℕ → Bool) (l : Lettering) (ws gs : List ℕ) (width room padding : ℕ) → gs ≡ groups width room (group_bits 24 ws) → l.width ≡ width → room ≡ l.room → l.padding ≡ padding
    → map l.character (before_padding padding gs) ≡ (lettered_kind lawful l).value ws
value_is lawful l ws gs width room padding g w r p = cc
