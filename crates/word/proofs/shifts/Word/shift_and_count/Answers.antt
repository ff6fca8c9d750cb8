-- `Word::shift_and_count` meets its contract.
use Rattle.std.proofs.Common.{◌≡◌, ◌+◌, ◌-◌, ap, ◌∙◌, arith}
use lib.Count.{count_leading_zeros}
use Rattle.word.specs.Shifts.{turned, turn_count}
use Rattle.word.proofs.ShiftLaws.{counted, turn_whole, least_turn}
use Rattle.word.proofs.shifts.Word.shift_and_count.Goals as goal
use Rattle.word.proofs.shifts.Word.shift_and_count.Goals.{After-magnitude}

-- the code counts among 64 bits
zeros : (c : After-magnitude) → count_leading_zeros 64 c.magnitude.result.bits ≡ turn_count c.args.self.bits + 29
zeros c = rw c.magnitude.ensures (counted _ c.args.self.fits)

pub overflow_sub-count : goal.overflow_sub-count
overflow_sub-count c = omega (arith, zeros (goal.at.overflow_sub-count c).After-magnitude)

pub returns : goal.returns
returns c =
    let w = c.args.self.bits in
    let n : count_leading_zeros 64 c.magnitude.result.bits - 29 ≡ turn_count w = omega (arith, zeros (goal.at.returns c).After-magnitude) in
    let e = c.turned_left.ensures ∙ ap (λ p. turned p w) n ∙ turn_whole w c.args.self.fits in
    record { word = e; count = n; meaning = rw (n, e) (least_turn w c.args.self.fits) }
