-- `Word::right_circular` meets its contract.
use Rattle.word.proofs.ShiftLaws.{right_circular_moves, right_undone}
use Rattle.word.proofs.shifts.Word.right_circular.Goals as goal

pub returns-clause-bits : goal.returns-clause-bits
returns-clause-bits c = rw c.turned_left.ensures (right_circular_moves _ _ c.args.self.fits)

pub returns-clause-back : goal.returns-clause-back
returns-clause-back c = rw c.turned_left.ensures (right_undone _ _ c.args.self.fits)
