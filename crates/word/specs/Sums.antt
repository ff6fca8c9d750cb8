-- Sums in ones' complement of numbers of n bits, and what stands beside them.
--   modulus n        2^n - 1, which is also -0, the number of n ones
--   sum m a b        the sum under the modulus m
--   complement m a   each bit the other way
--   negative n a     whether the sign, the leftmost of n bits, stands
--   magnitude n a    the complement where the sign stands, else the number
--   carries m a b    the carry of a sum
--   same             whether two signs are the same
--   overflows n a b  the overflow of a sum: both operands share a sign that the sum lacks
--   value n a        the signed value, 0 for both zeros
--   greater n a b    a stands above b: without a sign above with it, else by the number
use Rattle.std.specs.Prelude.{ℕ, ◌+◌, ◌-◌, ◌^◌, Bool, true, false, if◌then◌else◌, not, ◌&&◌, ℤ, pos, neg_ℤ, nat_le, nat_lt}

abbrev pub modulus : ℕ → ℕ
modulus n = 2 ^ n - 1

abbrev pub sum : ℕ → ℕ → ℕ → ℕ
sum m a b = if nat_lt (a + b) m then a + b else a + b - m

abbrev pub complement : ℕ → ℕ → ℕ
complement m a = m - a

abbrev pub negative : ℕ → ℕ → Bool
negative n a = nat_le (2 ^ (n - 1)) a

abbrev pub magnitude : ℕ → ℕ → ℕ
magnitude n a = if negative n a then complement (modulus n) a else a

abbrev pub carries : ℕ → ℕ → ℕ → Bool
carries m a b = nat_le m (a + b)

abbrev pub same : Bool → Bool → Bool
same true b = b
same false b = not b

abbrev pub overflows : ℕ → ℕ → ℕ → Bool
overflows n a b = same (negative n a) (negative n b) && not (same (negative n a) (negative n (sum (modulus n) a b)))

abbrev pub value : ℕ → ℕ → ℤ
value n a = if negative n a then neg_ℤ (pos (complement (modulus n) a)) else pos a

abbrev pub greater : ℕ → ℕ → ℕ → Bool
greater n a b = if same (negative n a) (negative n b) then nat_lt b a else negative n b
