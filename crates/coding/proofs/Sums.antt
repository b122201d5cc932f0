-- Sums of polynomials over the field of two elements: laws of bit_xor.
use Rattle.std.proofs.Common.{◌≡◌, ℕ, zero, suc, ◌*◌, ◌/◌, ◌^◌, ◌<◌, ◌≤◌, sym, ap, ◌∙◌, ap₂, add-zero, le-div_iff_mul-le, arith, lit<, pow_pos}
use native.Mathlib.Nat.{div-eq_of_lt}
use lib.Bits.{bit_xor, xor_comm, xor_assoc, xor_self, xor_zero_r, xor_block, xor_shr}

pub xor_left_comm : (a b c : ℕ) → bit_xor a (bit_xor b c) ≡ bit_xor b (bit_xor a c)
xor_left_comm a b c = sym (xor_assoc a b c) ∙ ap (λ (x : ℕ). bit_xor x c) (xor_comm a b) ∙ xor_assoc b a c

pub xor_swap : (a b c d : ℕ) → bit_xor (bit_xor a b) (bit_xor c d) ≡ bit_xor (bit_xor a c) (bit_xor b d)
xor_swap a b c d = xor_assoc a b (bit_xor c d) ∙ ap (bit_xor a) (xor_left_comm b c d) ∙ sym (xor_assoc a c (bit_xor b d))

pub xor_cancel : (a b : ℕ) → bit_xor a (bit_xor a b) ≡ b
xor_cancel a b = sym (xor_assoc a a b) ∙ ap (λ (z : ℕ). bit_xor z b) (xor_self a)

-- sums in any order, equal summands gone
pub ruleset sums = (xor_cancel, xor_self, xor_zero_r, xor_assoc, xor_comm, xor_left_comm)

-- two whose sum is zero are equal
pub xor_same : (x y : ℕ) → bit_xor x y ≡ 0 → x ≡ y
xor_same x y e = sym (xor_zero_r x) ∙ ap (bit_xor x) (sym (xor_self y)) ∙ sym (xor_assoc x y y) ∙ ap (λ (n : ℕ). bit_xor n y) e

-- multiplying by x
pub double_xor : (x y : ℕ) → bit_xor x y * 2 ≡ bit_xor (x * 2) (y * 2)
double_xor x y =
    sym (ap₂ bit_xor (sym (add-zero (x * 2))) (sym (add-zero (y * 2))) ∙ xor_block 1 x y 0 0 (lit< tt) (lit< tt) ∙ add-zero (bit_xor x y * 2))

-- multiplying by a sum of two bits
pub bit_xor_times : (a b v : ℕ) → a < 2 → b < 2 → bit_xor a b * v ≡ bit_xor (a * v) (b * v)
bit_xor_times zero b v ha hb =
    let z : 0 * v ≡ 0 = omega arith in
    ap (λ (x : ℕ). bit_xor x (b * v)) (sym z)
bit_xor_times (suc zero) zero v ha hb =
    let z : 0 * v ≡ 0 = omega arith in
    sym (ap (bit_xor (1 * v)) z ∙ xor_zero_r (1 * v))
bit_xor_times (suc zero) (suc zero) v ha hb = let z : 0 * v ≡ 0 = omega arith in z ∙ sym (xor_self (1 * v))
bit_xor_times (suc zero) (suc (suc b)) v ha hb = absurd (omega arith)
bit_xor_times (suc (suc a)) b v ha hb = absurd (omega arith)

-- a sum has the higher degree of its two parts
pub high_xor : (m x y : ℕ) → y < 2 ^ m → 2 ^ m ≤ x → 2 ^ m ≤ bit_xor y x
high_xor m x y hy hx =
    let e : bit_xor y x / 2 ^ m ≡ x / 2 ^ m = xor_shr y x m ∙ ap (λ (z : ℕ). bit_xor z (x / 2 ^ m)) (div-eq_of_lt hy) in
    let a : 1 * 2 ^ m ≤ x = omega arith in
    let b : 1 ≤ x / 2 ^ m = (le-div_iff_mul-le (pow_pos m)).1 a in
    let c : 1 ≤ bit_xor y x / 2 ^ m = omega arith in
    let d : 1 * 2 ^ m ≤ bit_xor y x = (le-div_iff_mul-le (pow_pos m)).0 c in
    omega arith
