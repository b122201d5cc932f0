-- The stages that lines are made of. Each takes the lengths whose line length is at most 4,096.
use Rattle.std.specs.Prelude.{ℕ, zero, suc, ◌+◌, ◌-◌, ◌*◌, ◌/◌, cond, ◌&&◌, List, ◌++◌, map, length, nat_le, nat_lt, slice_index}
use Rattle.std.specs.List.{range_with_len}
use Rattle.coding.specs.Bits.{plus}
use Rattle.line.specs.Line.{Model}

-- f 0, f 1, .., f (n - 1)
abbrev pub listed : (ℕ → ℕ) → ℕ → List ℕ
listed f n = map f (range_with_len 0 n)

-- A shift register of nine bits, the oldest first: it gives its oldest bit, and takes in the sum of that and the fifth. The bit
-- that it gives after n shifts:
unfoldable pub shifted : ℕ → ℕ → ℕ → ℕ → ℕ → ℕ → ℕ → ℕ → ℕ → ℕ → ℕ
shifted zero a b c d e f g h i = a
shifted (suc n) a b c d e f g h i = shifted n b c d e f g h i (plus a e)

-- the scrambling sequence o, counted from -9: o(-9) .. o(-1) = 001000001, then o(n) = o(n - 9) + o(n - 5)
abbrev pub sequence : ℕ → ℕ
sequence n = shifted n 0 0 1 0 0 0 0 0 1

-- what is added to the bit at place i: nothing to the first 22 bits, then o(0), o(1), ..
abbrev pub mask : ℕ → ℕ
mask i = cond (nat_lt i 22) 0 (sequence (i - 22 + 9))

abbrev pub scrambled : List ℕ → List ℕ
scrambled w = listed (λ i. plus (slice_index w i) (mask i)) (length w)

-- Scrambling: the mask is added, and added again it is gone.
abbrev pub scrambling : Model
scrambling = record {
  takes = λ n. nat_le n 4096;
  line_length = λ n. n;
  encode = λ w last. scrambled w;
  decode = λ x. scrambled x;
  growth = λ k. k;
}

-- more ones than zeros among four bits: a tie gives 0
abbrev pub vote : ℕ → ℕ → ℕ → ℕ → ℕ
vote a b c d = cond (nat_lt 2 (a + b + c + d)) 1 0

-- the vote of the four copies of bit i in line bits for n bits
abbrev pub voted : List ℕ → ℕ → ℕ → ℕ
voted x n i = vote (slice_index x i) (slice_index x (n + i)) (slice_index x (2 * n + i)) (slice_index x (3 * n + i))

-- Repetition: the word four times over, and back by a vote.
abbrev pub repetition : Model
repetition = record {
  takes = λ n. nat_le (4 * n) 4096;
  line_length = λ n. 4 * n;
  encode = λ w last. w ++ (w ++ (w ++ w));
  decode = λ x. listed (voted x (length x / 4)) (length x / 4);
  growth = λ k. k / 2;
}

-- the line bit at each place: the last bit first, then each bit added to the line bit before it
abbrev pub running : List ℕ → ℕ → ℕ → ℕ
running w last zero = last
running w last (suc i) = plus (running w last i) (slice_index w i)

-- Differential coding: a bit of the word says whether the line bit changes.
abbrev pub differential : Model
differential = record {
  takes = λ n. nat_le (n + 1) 4096;
  line_length = λ n. n + 1;
  encode = λ w last. listed (running w last) (length w + 1);
  decode = λ x. listed (λ i. plus (slice_index x i) (slice_index x (i + 1))) (length x - 1);
  growth = λ k. 2 * k;
}

-- A cascade: the upper line's bits go over the lower line. Only the lower has a last bit; the upper's is 0.
abbrev pub cascade : Model → Model → Model
cascade upper lower = record {
  takes = λ n. upper.takes n && lower.takes (upper.line_length n);
  line_length = λ n. lower.line_length (upper.line_length n);
  encode = λ w last. lower.encode (upper.encode w 0) last;
  decode = λ x. upper.decode (lower.decode x);
  growth = λ k. upper.growth (lower.growth k);
}
