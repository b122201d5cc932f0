use Rattle.std.proofs.Common.{◌≡◌, ℕ, List, [], ◌∷◌, ◌++◌, length, get_or, drop, arith, rules}
use Rattle.std.proofs.lemmas.List.{drop_more, drop_all}
use Rattle.line_stages.proofs.scrambling.Sequence.next_bit.Goals as goal

-- eight of nine, one place on, and a new one
shifted_in : (s : List ℕ) (v : ℕ) → length s ≡ 9 →
    get_or s 1 0 ∷ get_or s 2 0 ∷ get_or s 3 0 ∷ get_or s 4 0 ∷ get_or s 5 0 ∷ get_or s 6 0 ∷ get_or s 7 0 ∷ get_or s 8 0 ∷ v ∷ []
    ≡ drop 1 s ++ (v ∷ [])
shifted_in s v l =
    rw (
      drop_more s 1 0 (omega arith),
      drop_more s 2 0 (omega arith),
      drop_more s 3 0 (omega arith),
      drop_more s 4 0 (omega arith),
      drop_more s 5 0 (omega arith),
      drop_more s 6 0 (omega arith),
      drop_more s 7 0 (omega arith),
      drop_more s 8 0 (omega arith),
      drop_all 9 s (omega arith),
    )

pub returns-clause-register : goal.returns-clause-register
returns-clause-register c = shifted_in c.args.self.now.register c.sum-next.result (search rules)
