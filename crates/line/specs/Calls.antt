-- What the calls of a line answer and leave behind, in every case.
use Rattle.std.specs.Prelude.{ℕ, Bool, cond, ◌&&◌, List, length, Some, None, Ok, Err, Option, Result, ◌==◌, nat_lt}
use Rattle.reports.specs.declared.report.Report.{Report}
use Rattle.coding.specs.Bits.{are_bits}
use Rattle.line.specs.declared.refusal.LineRefusal.{LineRefusal}
use Rattle.line.specs.declared.refusal.LineRefusal.TheVariants.{WrongLength, NotABit}
use Rattle.line.specs.Line.{Model}
use Rattle.line.specs.Stages.{cascade}

-- a refusal's number; it speaks of no half and no place
abbrev pub number_of : LineRefusal → ℕ
number_of WrongLength = 12
number_of NotABit = 13

abbrev pub half_of : LineRefusal → ℕ
half_of WrongLength = 0
half_of NotABit = 0

abbrev pub place_of : LineRefusal → ℕ
place_of WrongLength = 0
place_of NotABit = 0

abbrev pub report_of : LineRefusal → Report
report_of r = record { number = number_of r; half = half_of r; place = place_of r }

-- the line length of n, if n is taken
abbrev pub length_of : Model → ℕ → Option ℕ
length_of m n = cond (m.takes n) (Some (m.line_length n)) None

-- n is taken, and l is its line length
abbrev pub fits : Model → ℕ → ℕ → Bool
fits m n l = m.takes n && m.line_length n == l

-- the number of bits between the two lines of a cascade, if n is taken there and l is its line length
abbrev pub middle_of : Model → Model → ℕ → ℕ → Option ℕ
middle_of upper lower n l = cond (fits (cascade upper lower) n l) (Some (upper.line_length n)) None

-- lengths are looked at before octets
abbrev pub verdict : Bool → Bool → Result (Unit {0}) LineRefusal
verdict lengths octets = cond lengths (cond octets (Ok tt) (Err NotABit)) (Err WrongLength)

-- an output that held old: a call that refuses leaves it as it was
abbrev pub written : Result (Unit {0}) LineRefusal → List ℕ → List ℕ → List ℕ
written (Ok u) new old = new
written (Err e) new old = old

-- encode of the word w after a last bit, into an output that holds o
abbrev pub encode_answer : Model → List ℕ → ℕ → List ℕ → Result (Unit {0}) LineRefusal
encode_answer m w last o = verdict (fits m (length w) (length o)) (are_bits w && nat_lt last 2)

abbrev pub encode_output : Model → List ℕ → ℕ → List ℕ → List ℕ
encode_output m w last o = written (encode_answer m w last o) (m.encode w last) o

-- decode of the line bits x, into an output that holds o
abbrev pub decode_answer : Model → List ℕ → List ℕ → Result (Unit {0}) LineRefusal
decode_answer m x o = verdict (fits m (length o) (length x)) (are_bits x)

abbrev pub decode_output : Model → List ℕ → List ℕ → List ℕ
decode_output m x o = written (decode_answer m x o) (m.decode x) o
