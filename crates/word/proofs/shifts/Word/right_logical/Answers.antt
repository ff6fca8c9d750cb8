-- `Word::right_logical` meets its contract.
use Rattle.word.proofs.ShiftLaws.{gone, right_logical_moves}
use Rattle.word.proofs.shifts.Word.right_logical.Goals as goal

pub returns-clause-value : goal.returns-clause-value
returns-clause-value c = rw c.min.ensures (gone c.args.count.number _ c.args.self.fits)

pub returns-clause-bits : goal.returns-clause-bits
returns-clause-bits c = rw (c.min.ensures, gone c.args.count.number _ c.args.self.fits) (right_logical_moves _ _)
