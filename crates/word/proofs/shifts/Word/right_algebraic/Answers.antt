-- `Word::right_algebraic` meets its contract.
use Rattle.word.proofs.ShiftLaws.{by_signs, right_algebraic_moves}
use Rattle.word.proofs.shifts.Word.right_algebraic.Goals as goal

pub returns-clause-value : goal.returns-clause-value
returns-clause-value c = rw c.min-places.ensures (by_signs _ _ c.args.self.fits _ c.signs-signs.ensures)

pub returns-clause-bits : goal.returns-clause-bits
returns-clause-bits c = rw (c.min-places.ensures, by_signs c.args.count.number _ c.args.self.fits _ c.signs-signs.ensures) (right_algebraic_moves _ _ c.args.self.fits)
