-- The machine's worked figures: what the code gives, what the definitions give and what the machine gives.
--   Agree x y z    all three are the same
--   numbers s      a sum of words, by the number of its total
--   Worked r       the list of figures
use Rattle.std.specs.Prelude.{◌≡◌, ℕ, true, false}
use Rattle.word.specs.declared.figures.Figures.{Figures}
use Rattle.word.specs.declared.sums.Sum.{Sum}
use Rattle.word.specs.Words.{Word}
use Rattle.word.specs.Adding.{full_sum}
use Rattle.word.specs.Parts.{field, read}
use Rattle.word.specs.Shifts.{left_circular, right_algebraic, right_circular, turn_count}
use Rattle.word.specs.Sums.{modulus, sum}

abbrev pub Agree : {A : Type 0} → A → A → A → Type 0
Agree x y z = (x ≡ y) × (y ≡ z)

abbrev pub numbers : Sum Word → Sum ℕ
numbers s = record { total = s.total.bits; carry = s.carry; overflow = s.overflow }

pub record Worked (r : Figures) : Type 0 where
  pub address_to_zero : Agree r.address_to_zero.bits (sum (modulus 18) 0o777776 1) 0
  pub address_past_minus_zero : Agree r.address_past_minus_zero.bits (sum (modulus 18) 0o777777 1) 1
  pub minus_zeros : Agree (numbers r.minus_zeros) (full_sum 36 0o777777777777 0o777777777777) (record { total = 0o777777777777; carry = true; overflow = false })
  pub greatest_plus_one : Agree (numbers r.greatest_plus_one) (full_sum 36 0o377777777777 1) (record { total = 0o400000000000; carry = false; overflow = true })
  pub unlike_zeros : Agree (numbers r.unlike_zeros) (full_sum 36 0o777777777777 0) (record { total = 0; carry = true; overflow = false })
  pub right_six_circular : Agree r.right_six_circular.bits (right_circular 6 0o765432101234) 0o347654321012
  pub right_six_algebraic : Agree r.right_six_algebraic.bits (right_algebraic 6 0o765432101234) 0o777654321012
  pub one_turned : Agree r.one_turned.word.bits (left_circular (turn_count 1) 1) 0o200000000000
  pub one_count : Agree r.one_turned.count (turn_count 1) 34
  pub upper_third : Agree r.upper_third.bits (read (field 7) 0o400000000000) 0o777777774000
