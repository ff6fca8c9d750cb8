-- The bits of a number, counted from the right beginning with 0.
--   bits_at s n w   the number that the n bits of w from bit s up write
--   bit i w         bit i of w, 0 or 1
use Rattle.std.specs.Prelude.{ℕ, ◌/◌, ◌%◌, ◌^◌}

abbrev pub bits_at : ℕ → ℕ → ℕ → ℕ
bits_at s n w = w / 2 ^ s % 2 ^ n

abbrev pub bit : ℕ → ℕ → ℕ
bit i w = bits_at i 1 w
