-- Bits of parts of a number: of its low end, of its high end, of two ends put together. Assumes nothing.
use Rattle.std.proofs.Common.{add-zero, ◌≡◌, ℕ, suc, ◌+◌, ◌-◌, ◌*◌, ◌/◌, ◌%◌, ◌^◌, ◌<◌, ◌≤◌, sym, ap, ◌∙◌, subst, mod-lt, add-mul, pow-suc, arith, pow_pos, pow-add, shr-shr, shr_lt}
use lib.Pow.{split, high, low, field, mod-mod-pow}
use Rattle.std.proofs.lemmas.Nat.Bits.{bit_at_cat_low, bit_at-zero, same_from_bits_below}
use Rattle.word.specs.Bits.{bit, bits_at}

-- bits of the k lowest bits are bits of the number
pub low_end : (s n k x : ℕ) → s + n ≤ k → bits_at s n (x % 2 ^ k) ≡ bits_at s n x
low_end s n k x h =
    let e : (k - (n + s)) + (n + s) ≡ k = omega arith in
    sym (field (x % 2 ^ k) n s) ∙ ap (λ y. y / 2 ^ s) (subst (λ j. x % 2 ^ j % 2 ^ (n + s) ≡ x % 2 ^ (n + s)) e (mod-mod-pow x (k - (n + s)) (n + s))) ∙ field x n s

-- bits of what stands above the k lowest bits are bits of the number, k places up
pub high_end : (s n k x : ℕ) → bits_at s n (x / 2 ^ k) ≡ bits_at (k + s) n x
high_end s n k x = ap (λ y. y % 2 ^ n) (shr-shr x k s)

-- two ends put together, lo of k bits: the bits of each
pub of_low : (s n k hi lo : ℕ) → lo < 2 ^ k → s + n ≤ k → bits_at s n (hi * 2 ^ k + lo) ≡ bits_at s n lo
of_low s n k hi lo h inside = sym (low_end s n k (hi * 2 ^ k + lo) inside) ∙ ap (bits_at s n) (low hi k h)

pub of_high : (s n k hi lo : ℕ) → lo < 2 ^ k → bits_at (k + s) n (hi * 2 ^ k + lo) ≡ bits_at s n hi
of_high s n k hi lo h = sym (high_end s n k (hi * 2 ^ k + lo)) ∙ ap (bits_at s n) (high hi k h)

-- places moved to the left leave zeros behind
pub behind : (i n x : ℕ) → i < n → bit i (x * 2 ^ n) ≡ 0
behind i n x h = ap (bit i) (sym (add-zero (x * 2 ^ n))) ∙ bit_at_cat_low x n 0 i h ∙ bit_at-zero i

-- a power of two that is at least 2 is even
pub even : (p : ℕ) → 0 < p → 2 ^ p ≡ 2 ^ (p - 1) * 2
even p h = let e : p ≡ suc (p - 1) = omega arith in ap (λ k. 2 ^ k) e ∙ pow-suc 2 (p - 1)

-- the complement, shifted right
pub complement_high : (p k a : ℕ) → a < 2 ^ (p + k) → (2 ^ (p + k) - 1 - a) / 2 ^ k ≡ 2 ^ p - 1 - a / 2 ^ k
complement_high p k a h =
    let q = a / 2 ^ k in
    let c = 2 ^ p - 1 - q in
    let apart = split a k in
    let rest : a % 2 ^ k < 2 ^ k = mod-lt a (pow_pos k) in
    let few : q < 2 ^ p = shr_lt p k h in
    let f : 2 ^ p ≡ c + (q + 1) = omega arith in
    let g : 2 ^ p * 2 ^ k ≡ c * 2 ^ k + (q * 2 ^ k + 1 * 2 ^ k) = ap (λ y. y * 2 ^ k) f ∙ add-mul c (q + 1) (2 ^ k) ∙ ap (λ y. c * 2 ^ k + y) (add-mul q 1 (2 ^ k)) in
    let whole = pow-add 2 p k in
    let d : 2 ^ (p + k) - 1 - a ≡ c * 2 ^ k + (2 ^ k - 1 - a % 2 ^ k) = omega arith in
    ap (λ y. y / 2 ^ k) d ∙ high c k (omega arith)

-- each bit of the complement is the other one
pub complement_bit : (w i a : ℕ) → i < w → a < 2 ^ w → bit i (2 ^ w - 1 - a) ≡ 1 - bit i a
complement_bit w i a h fits =
    let e : (w - i) + i ≡ w = omega arith in
    let d = subst (λ k. a < 2 ^ k → (2 ^ k - 1 - a) / 2 ^ i ≡ 2 ^ (w - i) - 1 - a / 2 ^ i) e (complement_high (w - i) i a) fits in
    let b = shr_lt {n = a} (w - i) i (subst (λ k. a < 2 ^ k) (sym e) fits) in
    let v = even (w - i) (omega arith) in
    ap (λ y. y % 2) d ∙ omega arith

-- numbers with the same k lowest bits have the same remainder
pub same_low : (k a b : ℕ) → ((i : ℕ) → i < k → bit i a ≡ bit i b) → a % 2 ^ k ≡ b % 2 ^ k
same_low k a b h =
    same_from_bits_below k (a % 2 ^ k) (b % 2 ^ k) (mod-lt a (pow_pos k)) (mod-lt b (pow_pos k)) (λ i lt. low_end i 1 k a (omega arith) ∙ h i lt ∙ sym (low_end i 1 k b (omega arith)))
