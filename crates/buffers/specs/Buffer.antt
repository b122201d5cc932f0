-- What a buffer of n octets holds.
use Rattle.std.specs.Prelude.{ℕ, ◌-◌, List, ◌++◌, length, take, replicate}
use Rattle.buffers.specs.declared.buffer.Buffer.{Buffer}

-- its octets
unfoldable pub text_of : {n : ℕ} → Buffer n → List ℕ
text_of b = take b.len b.room

-- after octets are appended: as many of them as there is room for
unfoldable pub appended : ℕ → List ℕ → List ℕ → List ℕ
appended n held octets = take n (held ++ octets)

-- the octets, and zeros up to n
abbrev pub padded : ℕ → List ℕ → List ℕ
padded n held = held ++ replicate (n - length held) 0
