-- A test over a whole table, computed once, and what it says of each entry.
use Rattle.std.proofs.Common.{◌≡◌, ℕ, zero, suc, ◌<◌, ◌≤◌, Bool, true, ◌&&◌, sym, subst, ⊎_elim, eq-or-lt_of_le, arith}
use Rattle.std.proofs.lemmas.Bool.{and_parts}

-- whether the test f passes at each number below n
unfoldable pub every_below : (ℕ → Bool) → ℕ → Bool
every_below f zero = true
every_below f (suc n) = f n && every_below f n

pub at_each : (f : ℕ → Bool) (n : ℕ) → every_below f n ≡ true → (k : ℕ) → k < n → f k ≡ true
unfolding every_below
at_each f zero t k h = absurd (omega arith)
at_each f (suc n) t k h =
    let l : k ≤ n = omega arith in
    let p = and_parts (f n) (every_below f n) t in
    ⊎_elim (λ e. subst (λ (m : ℕ). f m ≡ true) (sym e) p.0) (λ l. at_each f n p.1 k l) (eq-or-lt_of_le l)
