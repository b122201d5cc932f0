-- What a call of a line answers and writes where it refuses nothing, and what an answer tells.
use Rattle.std.proofs.Common.{◌≡◌, ℕ, ◌<◌, Bool, true, false, cond, ◌&&◌, eqb, ltb, List, length, Some, None, Ok, refl}
use Rattle.std.proofs.lemmas.Bool.{and_from, and_parts, lt-ltb, ltb-true, eq-eqb, eqb-true}
use Rattle.coding.specs.Bits.{are_bits}
use Rattle.line.specs.Line.{Model}
use Rattle.line.specs.Calls.{length_of, fits, verdict, encode_answer, encode_output, decode_answer, decode_output}

pub fits_from : (m : Model) (n l : ℕ) → m.takes n ≡ true → m.line_length n ≡ l → fits m n l ≡ true
fits_from m n l t e = and_from (m.takes n) (eqb (m.line_length n) l) t (eq-eqb (m.line_length n) l e)

-- What is known of a word that was not refused, and of line bits.
pub record Encodes (m : Model) (w : List ℕ) (last : ℕ) (o : List ℕ) : Type 0 where
  pub taken : m.takes (length w) ≡ true
  pub room : m.line_length (length w) ≡ length o
  pub are_bits : are_bits w ≡ true
  pub last_bit : last < 2
  pub output : encode_output m w last o ≡ m.encode w last

pub record Decodes (m : Model) (x o : List ℕ) : Type 0 where
  pub taken : m.takes (length o) ≡ true
  pub room : m.line_length (length o) ≡ length x
  pub are_bits : are_bits x ≡ true
  pub output : decode_output m x o ≡ m.decode x

ok_parts : (a b : Bool) → Ok tt ≡ verdict a b → (a ≡ true) × (b ≡ true)
ok_parts true true e = (refl, refl)
ok_parts true false e = cc
ok_parts false b e = cc

pub encodes : (m : Model) (w : List ℕ) (last : ℕ) (o : List ℕ) → Ok tt ≡ encode_answer m w last o → Encodes m w last o
encodes m w last o ok =
    let p = ok_parts (fits m (length w) (length o)) (are_bits w && ltb last 2) ok in
    let lengths = and_parts (m.takes (length w)) (eqb (m.line_length (length w)) (length o)) p.0 in
    let octets = and_parts (are_bits w) (ltb last 2) p.1 in
    record {
      taken = lengths.0;
      room = eqb-true (m.line_length (length w)) (length o) lengths.1;
      are_bits = octets.0;
      last_bit = ltb-true last 2 octets.1;
      output = rw (p.0, p.1);
    }

pub decodes : (m : Model) (x o : List ℕ) → Ok tt ≡ decode_answer m x o → Decodes m x o
decodes m x o ok =
    let p = ok_parts (fits m (length o) (length x)) (are_bits x) ok in
    let lengths = and_parts (m.takes (length o)) (eqb (m.line_length (length o)) (length x)) p.0 in
    record {
      taken = lengths.0;
      room = eqb-true (m.line_length (length o)) (length x) lengths.1;
      are_bits = p.1;
      output = rw (p.0, p.1);
    }

pub encode_written : (m : Model) (w : List ℕ) (last : ℕ) (o : List ℕ) → m.takes (length w) ≡ true → m.line_length (length w) ≡ length o →
    are_bits w ≡ true → last < 2 → (out : List ℕ) → out ≡ m.encode w last → out ≡ encode_output m w last o
encode_written m w last o t e hw hb out is = rw (fits_from m (length w) (length o) t e, hw, lt-ltb last 2 hb) is

module _ (m : Model) (x o : List ℕ) (t : m.takes (length o) ≡ true) (e : m.line_length (length o) ≡ length x)
    (hx : are_bits x ≡ true) where
  pub decode_ok : Ok tt ≡ decode_answer m x o
  decode_ok = rw (fits_from m (length o) (length x) t e, hx)

  pub decode_written : (out : List ℕ) → out ≡ m.decode x → out ≡ decode_output m x o
  decode_written out is = rw (fits_from m (length o) (length x) t e, hx) is

-- a length that was answered is that of a length that is taken
pub length_some : (m : Model) (n l : ℕ) → Some l ≡ length_of m n → (m.takes n ≡ true) × (m.line_length n ≡ l)
length_some m n l e = split (m.takes n) refl e
  where
    split : (b : Bool) → m.takes n ≡ b → Some l ≡ cond b (Some (m.line_length n)) None → (m.takes n ≡ true) × (m.line_length n ≡ l)
    split true t s = (t, cc)
    split false t s = (cc, cc)
