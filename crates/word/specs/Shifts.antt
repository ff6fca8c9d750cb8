-- Shifts of a word w by n places: the number that each gives, and the same said bit by bit of a result r.
--   Count                     a count of places, from 0 to 72
--   places c                  how many places the count c is
--   turned p w                w turned left by p places, at most 36: the lower 36 - p bits move up, the upper p come in at the right
--   right_circular n w, left_circular n w   the bits that leave at one end come in at the other
--   right_logical n w, left_logical n w     zeros come in
--   right_algebraic n w                     bits like the sign come in
--   RightCircularBits n w r, and so on      where each bit of r comes from, or each bit of w goes
--   Unlike w                  the two leftmost bits of w differ
--   turn_count w              how many bits right of the sign are like it, before the first that is not
--   LeastTurn w r n           r is w turned left by n places, the least number that brings unlike bits to the left, or 35 where none does
use Rattle.std.specs.Prelude.{◌≡◌, ℕ, ◌+◌, ◌-◌, ◌*◌, ◌/◌, ◌%◌, ◌^◌, ◌<◌, min, if◌then◌else◌, ◌⊎◌, ◌≢◌}
use Rattle.std.specs.Int.Count.{count_leading_zeros}
use Rattle.word.specs.declared.up_to.UpTo.{UpTo}
use Rattle.word.specs.Bits.{bit}
use Rattle.word.specs.Sums.{modulus, magnitude, negative}

abbrev pub Count : Type 0
Count = UpTo 72

abbrev pub places : Count → ℕ
places c = c.number

abbrev pub turned : ℕ → ℕ → ℕ
turned p w = w % 2 ^ (36 - p) * 2 ^ p + w / 2 ^ (36 - p)

abbrev pub left_circular : ℕ → ℕ → ℕ
left_circular n w = turned (n % 36) w

abbrev pub right_circular : ℕ → ℕ → ℕ
right_circular n w = turned (36 - n % 36) w

abbrev pub right_logical : ℕ → ℕ → ℕ
right_logical n w = w / 2 ^ n

abbrev pub left_logical : ℕ → ℕ → ℕ
left_logical n w = w * 2 ^ n % 2 ^ 36

abbrev pub right_algebraic : ℕ → ℕ → ℕ
right_algebraic n w = (if negative 36 w then 2 ^ 36 - 2 ^ (36 - n) else 0) + w / 2 ^ n

abbrev pub RightCircularBits : ℕ → ℕ → ℕ → Type 0
RightCircularBits n w r = (i : ℕ) → i < 36 → bit i r ≡ bit ((i + n) % 36) w

abbrev pub LeftCircularBits : ℕ → ℕ → ℕ → Type 0
LeftCircularBits n w r = (i : ℕ) → i < 36 → bit ((i + n) % 36) r ≡ bit i w

abbrev pub RightLogicalBits : ℕ → ℕ → ℕ → Type 0
RightLogicalBits n w r = (i : ℕ) → bit i r ≡ bit (i + n) w

pub record LeftLogicalBits (n w r : ℕ) : Type 0 where
  pub moved : (i : ℕ) → i + n < 36 → bit (i + n) r ≡ bit i w
  pub zeros : (i : ℕ) → i < n → bit i r ≡ 0

abbrev pub RightAlgebraicBits : ℕ → ℕ → ℕ → Type 0
RightAlgebraicBits n w r = (i : ℕ) → i < 36 → bit i r ≡ bit (min (i + n) 35) w

abbrev pub Unlike : ℕ → Type 0
Unlike w = bit 35 w ≢ bit 34 w

abbrev pub turn_count : ℕ → ℕ
turn_count w = count_leading_zeros 35 (magnitude 36 w)

pub record LeastTurn (w r n : ℕ) : Type 0 where
  pub turn : r ≡ left_circular n w
  pub least : (k : ℕ) → k < n → bit 35 (left_circular k w) ≡ bit 34 (left_circular k w)
  pub ends : Unlike r ⊎ ((n ≡ 35) × ((w ≡ 0) ⊎ (w ≡ modulus 36)))
