-- The header of a reel: four numbers. Each is read and looked at before the next.
use Rattle.std.specs.Prelude.{ℕ, ◌+◌, cond, ◌==◌, List, drop, Ok, Err, Result}
use Rattle.std.specs.Option.{ok_or}
use Rattle.lines.specs.declared.lines.MarkedLine.{MarkedLine}
use Rattle.lines.specs.Marks.{chosen}
use Rattle.reel.specs.Numbers.{number_at_front}
use Rattle.reel.specs.declared.number.Number.{Number}
use Rattle.reel.specs.declared.header.Header.{Header}
use Rattle.reel.specs.declared.refusal.ReelRefusal.{ReelRefusal}
use Rattle.reel.specs.declared.refusal.ReelRefusal.TheVariants.{Unknown}
use Rattle.reel.specs.declared.refusal.ReelRefusal.TheVariants

abbrev pub numbered : ℕ → List ℕ → Result Number ReelRefusal
numbered most os = ok_or (number_at_front most os) TheVariants.Number

-- one step after another, as long as none refuses
abbrev pub and_then : {X Y : Type 0} → Result X ReelRefusal → (X → Result Y ReelRefusal) → Result Y ReelRefusal
and_then (Ok x) next = next x
and_then (Err e) next = Err e

-- the number of takes, up to 127
abbrev pub behind_mark : ℕ → ℕ → MarkedLine → List ℕ → Result Header ReelRefusal
behind_mark len accession line os =
    and_then (numbered 127 os) (λ takes. Ok (record { accession = accession; line = line; takes = takes.value; len = len + takes.len }))

-- the mark of a line
abbrev pub behind_accession : ℕ → ℕ → List ℕ → Result Header ReelRefusal
behind_accession len accession os =
    and_then (numbered 127 os)
    (λ mark. and_then (ok_or (chosen mark.value) Unknown) (λ line. behind_mark (len + mark.len) accession line (drop mark.len os)))

-- the accession, up to 2,097,151
abbrev pub behind_form : ℕ → List ℕ → Result Header ReelRefusal
behind_form len os =
    and_then (numbered 2097151 os) (λ accession. behind_accession (len + accession.len) accession.value (drop accession.len os))

-- the form, which is 1
abbrev pub header_of : List ℕ → Result Header ReelRefusal
header_of os = and_then (numbered 127 os) (λ form. cond (form.value == 1) (behind_form form.len (drop form.len os)) (Err Unknown))
