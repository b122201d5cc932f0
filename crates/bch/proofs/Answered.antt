-- The decoder's answers are the search's.
use Rattle.std.proofs.Common.{◌≡◌, ℕ, ◌≤◌, true, List, length, Ok, Err, Result, sym, ap, ◌∙◌, ⊎_elim, eq-zero-or-pos, arith}
use Rattle.std.proofs.lemmas.Bool.{cond-true}
use Rattle.coding.specs.Bits.{are_bits}
use Rattle.coding.specs.Distance.{distance}
use Rattle.coding.proofs.Distances.{distance_zero, distance_self}
use Rattle.bch.specs.declared.word.CodeRefusal.{CodeRefusal}
use Rattle.bch.specs.declared.word.CodeRefusal.TheVariants.{NotBits, NoCodeword}
use Rattle.bch.specs.declared.word.Corrected.{Corrected}
use Rattle.bch.specs.Nearest.{nearest, Near}
use Rattle.bch.specs.Codec.{corrected, found, decoded}
use Rattle.bch.specs.Search.{leftover}
use Rattle.bch.proofs.Remainders.{codeword_from, codeword_leftover}
use Rattle.bch.proofs.Nearby.{near_nearest, none_nearest}

-- a word with a remainder is no codeword, so a codeword near it is at least one place away
pub not_here : (r w : List ℕ) → (leftover r ≡ 0 → ⊥) → Near r w → 1 ≤ distance r w
not_here r w damaged n =
    ⊎_elim (λ z. absurd (damaged (ap leftover (distance_zero r w z) ∙ codeword_leftover w n.code))) (λ p. p)
    (eq-zero-or-pos (distance r w))

pub found_near : (r : List ℕ) (a : Corrected) → length r ≡ 111 → are_bits r ≡ true → Near r a.codeword
    → a.places ≡ distance r a.codeword
    → ◌≡◌ {A = Result Corrected CodeRefusal} (Ok a) (found r (nearest r))
found_near r a l b n e =
    let s : a ≡ corrected r a.codeword = ap (λ (p : ℕ). made a.codeword p) e in
    ap Ok s ∙ ap (found r) (sym (near_nearest r l b a.codeword n))
  where
    made : List ℕ → ℕ → Corrected
    made c p = record { codeword = c; places = p }

pub found_none : (r : List ℕ) → length r ≡ 111 → are_bits r ≡ true → ((w : List ℕ) → Near r w → ⊥)
    → ◌≡◌ {A = Result Corrected CodeRefusal} (Err NoCodeword) (found r (nearest r))
found_none r l b n = ap (found r) (sym (none_nearest r l b n))

-- a word without a remainder is its own codeword
pub undamaged : (r : List ℕ) → length r ≡ 111 → are_bits r ≡ true → leftover r ≡ 0
    → ◌≡◌ {A = Result Corrected CodeRefusal} (Ok (record { codeword = r; places = 0 })) (found r (nearest r))
undamaged r l b e =
    found_near r (record { codeword = r; places = 0 }) l b
    (record { code = codeword_from r l b e; near = omega (arith, distance_self r) }) (sym (distance_self r))

pub decoded_bits : (r : List ℕ) (q : Result Corrected CodeRefusal) → are_bits r ≡ true → q ≡ found r (nearest r) → q ≡ decoded r
decoded_bits r q b e = e ∙ sym (cond-true (are_bits r) (found r (nearest r)) (Err NotBits) b)
