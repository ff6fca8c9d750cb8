-- What an adder of n bits answers.
--   full_sum n a b     a sum with its two designators
--   adder_reply n a b  the same, or nothing where an operand has more than n bits
use Rattle.std.specs.Prelude.{ℕ, ◌^◌, if◌then◌else◌, ◌&&◌, Some, None, Option, nat_lt}
use Rattle.word.specs.declared.sums.Sum.{Sum}
use Rattle.word.specs.Sums.{modulus, sum, carries, overflows}

abbrev pub full_sum : ℕ → ℕ → ℕ → Sum ℕ
full_sum n a b = record { total = sum (modulus n) a b; carry = carries (modulus n) a b; overflow = overflows n a b }

abbrev pub adder_reply : ℕ → ℕ → ℕ → Option (Sum ℕ)
adder_reply n a b = if nat_lt a (2 ^ n) && nat_lt b (2 ^ n) then Some (full_sum n a b) else None
