-- What holds of the total of every column of words.
--   sum ws           the library's: the sum of the words as numbers, without a bound
--   value_sum ws     the sum of the words' signed values
--   Calm s ws        no sum overflows as the words are added to the register s
--   TotalLaws        the total is the remainder of the plain sum by the modulus; where no sum overflows, its signed value
--                    is the sum of the signed values; and it does not depend on the order of the words
use Rattle.std.specs.Prelude.{◌≡◌, ℕ, ◌%◌, false, List, [], ◌∷◌, sum, ℤ, pos, ◌+ℤ◌}
use Rattle.std.specs.List.Sorted.{IsPermutation}
use Rattle.word.specs.Sums.{modulus, overflows, value}
use Rattle.column.specs.Column.{Words}
use Rattle.tally.specs.Tally.{plus, total}

abbrev pub value_sum : List ℕ → ℤ
value_sum [] = pos 0
value_sum (w ∷ ws) = value 36 w +ℤ value_sum ws

abbrev pub Calm : ℕ → List ℕ → Type 0
Calm s [] = Unit {0}
Calm s (w ∷ ws) = (overflows 36 s w ≡ false) × Calm (plus s w) ws

pub record TotalLaws : Type 0 where
  pub remainder : (ws : List ℕ) → Words ws → total 0 ws ≡ sum ws % modulus 36
  pub values : (ws : List ℕ) → Words ws → Calm 0 ws → value 36 (total 0 ws) ≡ value_sum ws
  pub any_order : (ws vs : List ℕ) → Words ws → IsPermutation ws vs → total 0 vs ≡ total 0 ws
