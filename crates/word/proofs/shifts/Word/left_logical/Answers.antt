-- `Word::left_logical` meets its contract.
use Rattle.word.proofs.ShiftLaws.{left_by_mask, left_logical_moves}
use Rattle.word.proofs.shifts.Word.left_logical.Goals as goal

pub returns-clause-value : goal.returns-clause-value
returns-clause-value c = rw c.min.ensures (left_by_mask c.args.count.number c.args.self.bits)

pub returns-clause-bits : goal.returns-clause-bits
returns-clause-bits c = rw (c.min.ensures, left_by_mask c.args.count.number c.args.self.bits) (left_logical_moves _ _)
