-- A part of a buffer's room is written.
use Rattle.std.proofs.Common.{◌≡◌, ℕ, ◌+◌, ◌-◌, ◌≤◌, List, ◌++◌, length, take, drop, min, sym, ap, ◌∙◌, length-take-le, arith}
use Rattle.std.specs.Prelude.{replicate}
use borrow.Rule.Slice.PartMut.{put_mid}
use lib.Seq.{take-append-add}
use Rattle.std.proofs.lemmas.Slice.{take-put_mid, drop-put_mid}
use Rattle.std.proofs.lemmas.List.{take_min, drop-drop, drop-replicate}
use Rattle.buffers.specs.Buffer.{appended}

module _ (n start end : ℕ) (room octets part : List ℕ) (within : start ≤ n) (long : length room ≡ n) (ends : end ≡ min n (start + length octets)) (copied : part ≡ take (end - start) octets) where
  length_part : length part ≡ end - start
  length_part = ap length copied ∙ length-take-le (end - start) octets (omega arith)

  -- as many octets as are written, and as there is room for
  as_many : take (end - start) octets ≡ take (n - start) octets
  as_many = ap (λ (k : ℕ). take k octets) (omega arith) ∙ take_min (n - start) octets

  pub front : take end (put_mid start (end - start) room part) ≡ appended n (take start room) octets
  unfolding appended
  front =
      take-put_mid start (end - start) room part end (omega (arith, length_part)) (omega arith)
      ∙ ap (λ (z : List ℕ). take start room ++ z) (copied ∙ as_many)
      ∙ sym (ap (λ (k : ℕ). take k (take start room ++ octets)) (omega (arith, length-take-le start room (omega arith))) ∙ take-append-add (take start room) octets (n - start))

  pub behind : drop start room ≡ replicate (n - start) 0 → drop end (put_mid start (end - start) room part) ≡ replicate (n - end) 0
  behind blank =
      drop-put_mid start (end - start) room part end (omega arith) (omega arith) length_part
      ∙ ap (λ (k : ℕ). drop k room) (omega arith)
      ∙ sym (drop-drop (end - start) start room)
      ∙ ap (drop (end - start)) blank
      ∙ drop-replicate (end - start) (n - start) 0
      ∙ ap (λ (k : ℕ). replicate k 0) (omega arith)
