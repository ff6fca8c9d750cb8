-- `worked_figures` meets its contract.
use Rattle.std.proofs.Common.{◌≡◌, ℕ, refl, ap, ◌∙◌}
use lib.Count.{count_leading_zeros}
use Rattle.word.specs.declared.sums.Sum.{Sum}
use Rattle.word.specs.Words.{Word}
use Rattle.word.specs.Adding.{full_sum}
use Rattle.word.specs.Figures.{numbers}
use Rattle.word.specs.Parts.{field, read}
use Rattle.word.specs.Shifts.{left_circular, right_algebraic, right_circular, turn_count}
use Rattle.word.specs.Sums.{modulus, sum, carries, overflows}
use Rattle.word.proofs.figures.worked_figures.Goals as goal

-- a sum of words whose numbers are known
summed : (s : Sum Word) (x y a b : ℕ) → s.total.bits ≡ sum (modulus 36) x y → s.carry ≡ carries (modulus 36) x y → s.overflow ≡ overflows 36 x y → x ≡ a → y ≡ b → numbers s ≡ full_sum 36 a b
summed s x y a b t c o p q =
    let whole : numbers s ≡ full_sum 36 x y = λ i. record { total = t i; carry = c i; overflow = o i } in
    whole ∙ (λ i. full_sum 36 (p i) (q i))

pub returns : goal.returns
unfolding count_leading_zeros
returns c = record {
  address_to_zero = (c.plus.ensures ∙ (λ i. sum (modulus 18) (c.of_lowest.ensures i) (c.of_lowest-2.ensures i)), refl);
  address_past_minus_zero = (c.plus-2.ensures ∙ (λ i. sum (modulus 18) (c.of_lowest-3.ensures i) (c.of_lowest-4.ensures i)), refl);
  minus_zeros =
      let s = c.plus-3.ensures in
      (summed c.plus-3.result _ _ _ _ s.total s.carry s.overflow c.of_lowest-minus_zero.ensures c.of_lowest-minus_zero.ensures, refl);
  greatest_plus_one =
      let s = c.plus-4.ensures in
      (summed c.plus-4.result _ _ _ _ s.total s.carry s.overflow c.of_lowest-5.ensures c.of_lowest-one.ensures, refl);
  unlike_zeros =
      let s = c.plus-5.ensures in
      (summed c.plus-5.result _ _ _ _ s.total s.carry s.overflow c.of_lowest-minus_zero.ensures c.of_lowest-6.ensures, refl);
  right_six_circular =
      let shifted : c.right_circular.result.bits ≡ right_circular 6 c.of_lowest-shifted.result.bits = c.right_circular.ensures.value in
      (shifted ∙ ap (right_circular 6) c.of_lowest-shifted.ensures, refl);
  right_six_algebraic =
      let shifted : c.right_algebraic.result.bits ≡ right_algebraic 6 c.of_lowest-shifted.result.bits = c.right_algebraic.ensures.value in
      (shifted ∙ ap (right_algebraic 6) c.of_lowest-shifted.ensures, refl);
  one_turned = (c.shift_and_count.ensures.word ∙ ap (λ w. left_circular (turn_count w) w) c.of_lowest-one.ensures, refl);
  one_count = (c.shift_and_count.ensures.count ∙ ap turn_count c.of_lowest-one.ensures, refl);
  upper_third = (c.part.ensures.value ∙ ap (read (field 7)) c.of_lowest-7.ensures, refl);
}
