-- A text laid out in groups, character by character.
use Rattle.std.proofs.Common.{◌≡◌, ℕ, suc, ◌+◌, ◌-◌, ◌<◌, ◌≤◌, Bool, cond, eqb, List, [], ◌∷◌, ◌++◌, map, length, get_or, take, drop, set, replicate, sym, refl, ap, ◌∙◌, ap₂, arith}
use Rattle.std.proofs.lemmas.List.{length-append, length-map, length-replicate, length-take-le, set_at, append_assoc, append-nil, take_all, take_more, drop_all, map_more, at_drop_more}
use Rattle.std.proofs.lemmas.Bool.{eq-eqb, ne_eqb}
use Rattle.buffers.specs.Buffer.{appended}
use Rattle.buffers.proofs.Appending.{appended_whole}
use Rattle.content.specs.Kinds.{Lettering, laid_out, before_padding}

module _ (code : ℕ → ℕ) (room padding : ℕ) (t : List ℕ) where
  -- the groups when i characters are laid out
  abbrev pub laid : ℕ → List ℕ
  laid i = map code (take i t) ++ replicate (room - i) padding

  pub laid_more : (i x : ℕ) (groups : List ℕ) → i < length t → length t ≤ room → groups ≡ laid i → x ≡ code (get_or t i 0) → set groups i x ≡ laid (i + 1)
  laid_more i x groups h k e f =
      let one : room - i ≡ suc (room - (i + 1)) = omega arith in
      let long : length (map code (take i t)) ≡ i = length-map (take i t) code ∙ length-take-le i t (omega arith) in
      ap₂ (λ (g : List ℕ) (y : ℕ). set g i y) (e ∙ ap (λ (n : ℕ). map code (take i t) ++ replicate n padding) one) f
      ∙ set_at (map code (take i t)) padding (replicate (room - (i + 1)) padding) (code (get_or t i 0)) i long
      ∙ sym (append_assoc (map code (take i t)) (code (get_or t i 0) ∷ []) (replicate (room - (i + 1)) padding))
      ∙ ap (λ (g : List ℕ). g ++ replicate (room - (i + 1)) padding) (sym (map_more code t i 0 h))

  pub laid_all : (i : ℕ) (groups : List ℕ) → i ≡ length t → groups ≡ laid i → groups ≡ map code t ++ replicate (room - length t) padding
  laid_all i groups e f = f ∙ ap₂ (λ (a : List ℕ) (n : ℕ). map code a ++ replicate (room - n) padding) (take_all i t (omega arith)) e

-- a text laid out fills its room
pub length_laid : (l : Lettering) (t : List ℕ) → length t ≤ l.room → length (laid_out l t) ≡ l.room
length_laid l t short =
    length-append (map l.code t) (replicate (l.room - length t) l.padding)
    ∙ ap₂ (λ (a b : ℕ). a + b) (length-map t l.code) (length-replicate (l.room - length t) l.padding) ∙ omega arith

-- the characters of the groups before i, none of which holds padding, are held
pub record Read (character : ℕ → ℕ) (padding : ℕ) (groups : List ℕ) (i : ℕ) (held : List ℕ) : Type 0 where
  pub text : held ≡ map character (take i groups)
  pub before : before_padding padding groups ≡ take i groups ++ before_padding padding (drop i groups)

module _ (character : ℕ → ℕ) (padding : ℕ) (groups : List ℕ) where
  pub read_none : (held : List ℕ) → held ≡ [] → Read character padding groups 0 held
  read_none held e = record { text = e; before = refl }

  padding_more : (i : ℕ) → i < length groups → before_padding padding (drop i groups) ≡ cond (eqb (get_or groups i 0) padding) [] (get_or groups i 0 ∷ before_padding padding (drop (i + 1) groups))
  unfolding before_padding
  padding_more i h = at_drop_more (before_padding padding) groups i 0 h

  pub read_more : (i x : ℕ) (held after : List ℕ) → i < length groups → (get_or groups i 0 ≡ padding → ⊥) → x ≡ character (get_or groups i 0) → after ≡ appended (length groups) held (x ∷ [])
      → Read character padding groups i held → Read character padding groups (i + 1) after
  read_more i x held after h n e a r =
      let long : length held ≡ i = ap length r.text ∙ length-map (take i groups) character ∙ length-take-le i groups (omega arith) in
      let fits : length (held ++ (x ∷ [])) ≤ length groups = omega (arith, length-append held (x ∷ [])) in
      record {
        text = a ∙ appended_whole (length groups) held (x ∷ []) fits ∙ ap₂ (λ (t : List ℕ) (y : ℕ). t ++ (y ∷ [])) r.text e ∙ sym (map_more character groups i 0 h);
        before =
            r.before
            ∙ ap (λ (b : List ℕ). take i groups ++ b) (padding_more i h ∙ ap (λ (t : Bool). cond t [] (get_or groups i 0 ∷ before_padding padding (drop (i + 1) groups))) (ne_eqb (get_or groups i 0) padding n))
            ∙ sym (append_assoc (take i groups) (get_or groups i 0 ∷ []) (before_padding padding (drop (i + 1) groups)))
            ∙ ap (λ (l : List ℕ). l ++ before_padding padding (drop (i + 1) groups)) (sym (take_more groups i 0 h));
      }

  -- what is held at the first group that holds padding, and at the end
  pub read_stop : (i : ℕ) (held : List ℕ) → i < length groups → get_or groups i 0 ≡ padding → Read character padding groups i held → held ≡ map character (before_padding padding groups)
  read_stop i held h e r =
      r.text
      ∙ ap (map character) (sym (r.before ∙ ap (λ (b : List ℕ). take i groups ++ b) (padding_more i h ∙ ap (λ (t : Bool). cond t [] (get_or groups i 0 ∷ before_padding padding (drop (i + 1) groups))) (eq-eqb (get_or groups i 0) padding e)) ∙ append-nil (take i groups)))

  pub read_all : (i : ℕ) (held : List ℕ) → i ≡ length groups → Read character padding groups i held → held ≡ map character (before_padding padding groups)
  unfolding before_padding
  read_all i held e r = r.text ∙ ap (map character) (sym (r.before ∙ ap (λ (b : List ℕ). take i groups ++ before_padding padding b) (drop_all i groups (omega arith)) ∙ append-nil (take i groups)))
