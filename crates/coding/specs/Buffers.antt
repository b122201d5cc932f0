-- What is written into a lent buffer.
use Rattle.std.specs.Prelude.{ℕ, ◌+◌, List, ◌++◌, length, take, drop}

-- octets over those of the buffer from the place `at` on, counted from 0; the others stay
abbrev pub overwritten : ℕ → List ℕ → List ℕ → List ℕ
overwritten at octets buffer = take at buffer ++ (octets ++ drop (at + length octets) buffer)
