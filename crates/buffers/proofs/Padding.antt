-- A room of n octets: some at its front, and zeros behind them.
use Rattle.std.proofs.Common.{◌≡◌, ℕ, ◌-◌, ◌≤◌, List, ◌++◌, length, take, drop, sym, ap, ◌∙◌, take-append-drop, length-take-le, arith}
use Rattle.std.specs.Prelude.{replicate}
use Rattle.buffers.specs.Buffer.{padded}

-- the room is its front and zeros
pub padded-take : (n k : ℕ) (room : List ℕ) → k ≤ n → length room ≡ n → drop k room ≡ replicate (n - k) 0 → padded n (take k room) ≡ room
padded-take n k room within long blank =
    ap (λ (m : ℕ). take k room ++ replicate (n - m) 0) (length-take-le k room (omega arith))
    ∙ ap (λ (z : List ℕ). take k room ++ z) (sym blank)
    ∙ take-append-drop k room
