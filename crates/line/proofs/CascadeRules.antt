-- A cascade of two lines that keep the rules keeps the rules.
use Rattle.std.proofs.Common.{◌≡◌, ℕ, ◌≤◌, Bool, true, false, cond, eqb, List, length, Some, None, Ok, Result, sym, refl, ap, ◌∙◌, le_trans, lit<}
use Rattle.std.proofs.lemmas.Bool.{and_parts, eqb-true}
use Rattle.line.specs.Line.{Model, Word, LineRules}
use Rattle.line.specs.declared.refusal.LineRefusal.{LineRefusal}
use Rattle.line.specs.Calls.{fits, middle_of, encode_answer, encode_output, decode_answer, decode_output}
use Rattle.line.specs.Stages.{cascade}
use Rattle.line.proofs.Answers.{encodes, decodes, decode_ok, decode_written}

module _ (u d : Model) (ru : LineRules u) (rd : LineRules d) where
  upper_takes : (n : ℕ) → (cascade u d).takes n ≡ true → u.takes n ≡ true
  upper_takes n h = (and_parts (u.takes n) (d.takes (u.line_length n)) h).0

  lower_takes : (n : ℕ) → (cascade u d).takes n ≡ true → d.takes (u.line_length n) ≡ true
  lower_takes n h = (and_parts (u.takes n) (d.takes (u.line_length n)) h).1

  -- what the upper line makes is a word to the lower, both ways
  middle : (n : ℕ) (w : List ℕ) → (cascade u d).takes n ≡ true → Word n w → Word (u.line_length n) (u.encode w 0)
  middle n w t word = ru.encodes n w 0 (upper_takes n t) word (lit< tt)

  middle_back : (n : ℕ) (x : List ℕ) → (cascade u d).takes n ≡ true → Word ((cascade u d).line_length n) x →
      Word (u.line_length n) (d.decode x)
  middle_back n x t line = rd.decodes (u.line_length n) x (lower_takes n t) line

  pub cascade_rules : LineRules (cascade u d)
  cascade_rules = record {
    longer = λ a b ta tb h.
        rd.longer (u.line_length a) (u.line_length b) (lower_takes a ta) (lower_takes b tb)
        (ru.longer a b (upper_takes a ta) (upper_takes b tb) h);
    short = λ n t. ((ru.short n (upper_takes n t)).0, (rd.short (u.line_length n) (lower_takes n t)).1);
    encodes = λ n w last t word hb. rd.encodes (u.line_length n) (u.encode w 0) last (lower_takes n t) (middle n w t word) hb;
    decodes = λ n x t line. ru.decodes n (d.decode x) (upper_takes n t) (middle_back n x t line);
    none = ap u.growth rd.none ∙ ru.none;
    rising = λ j k h. ru.rising (d.growth j) (d.growth k) (rd.rising j k h);
    near = λ n w last x t word hb line.
        le_trans (ru.near n w 0 (d.decode x) (upper_takes n t) word (lit< tt) (middle_back n x t line))
        (ru.rising _ _ (rd.near (u.line_length n) (u.encode w 0) last x (lower_takes n t) (middle n w t word) hb line));
  }

  -- The calls. Both ask first for the number of bits in the middle.
  fit : (n k l : ℕ) → Some l ≡ middle_of u d n k →
      ((cascade u d).takes n ≡ true) × ((cascade u d).line_length n ≡ k) × (u.line_length n ≡ l)
  fit n k l e = split (fits (cascade u d) n k) refl e
    where
      split : (b : Bool) → fits (cascade u d) n k ≡ b → Some l ≡ cond b (Some (u.line_length n)) None →
          ((cascade u d).takes n ≡ true) × ((cascade u d).line_length n ≡ k) × (u.line_length n ≡ l)
      split true f s =
          let p = and_parts ((cascade u d).takes n) (eqb ((cascade u d).line_length n) k) f in
          (p.0, eqb-true ((cascade u d).line_length n) k p.1, cc)
      split false f s = (cc, cc, cc)

  pub in_room : (n k l : ℕ) → Some l ≡ middle_of u d n k → l ≤ 4096
  in_room n k l e = let p = fit n k l e in rw p.2 at (ru.short n (upper_takes n p.0)).1

  -- Encode: the upper line wrote y into a room.
  module _ (w : List ℕ) (k l : ℕ) (found : Some l ≡ middle_of u d (length w) k)
      (room y : List ℕ) (ok : Ok tt ≡ encode_answer u w 0 room) (output : y ≡ encode_output u w 0 room) where
    word : Word (length w) w
    word = (refl, (encodes u w 0 room ok).are_bits)

    encoded : y ≡ u.encode w 0
    encoded = output ∙ (encodes u w 0 room ok).output

    taken_word : (cascade u d).takes (length w) ≡ true
    taken_word = (fit (length w) k l found).0

    -- what the lower line then answers and writes is the cascade's
    pub encode_all : (last : ℕ) (o out : List ℕ) (r : Result (Unit {0}) LineRefusal) →
        r ≡ encode_answer d y last o → out ≡ encode_output d y last o →
        (r ≡ encode_answer (cascade u d) w last o) × (out ≡ encode_output (cascade u d) w last o)
    encode_all last o out r a is =
        let m = middle (length w) w taken_word word in (
          a ∙ rw (encoded, m.0, m.1, word.1, upper_takes (length w) taken_word),
          is ∙ rw (encoded, m.0, m.1, word.1, upper_takes (length w) taken_word),
        )

  -- Decode: the lower line wrote y into a room.
  module _ (x o : List ℕ) (l : ℕ) (found : Some l ≡ middle_of u d (length o) (length x))
      (room y : List ℕ) (ok : Ok tt ≡ decode_answer d x room) (output : y ≡ decode_output d x room) where
    decoded : y ≡ d.decode x
    decoded = output ∙ (decodes d x room ok).output

    taken_line : (cascade u d).takes (length o) ≡ true
    taken_line = (fit (length o) (length x) l found).0

    line : Word ((cascade u d).line_length (length o)) x
    line = (sym (fit (length o) (length x) l found).1, (decodes d x room ok).are_bits)

    -- what the upper line then answers and writes is the cascade's
    pub decode_all : (out : List ℕ) (r : Result (Unit {0}) LineRefusal) →
        r ≡ decode_answer u y o → out ≡ decode_output u y o →
        (r ≡ decode_answer (cascade u d) x o) × (out ≡ decode_output (cascade u d) x o)
    decode_all out r a is =
        let m = middle_back (length o) x taken_line line in
        let up = upper_takes (length o) taken_line in (
          a ∙ rw decoded
              (sym (decode_ok u (d.decode x) o up (sym m.0) m.1) ∙ decode_ok (cascade u d) x o taken_line (sym line.0) line.1),
          is ∙ rw decoded
              (sym (decode_written u (d.decode x) o up (sym m.0) m.1 _ refl)
              ∙ decode_written (cascade u d) x o taken_line (sym line.0) line.1 _ refl),
        )
