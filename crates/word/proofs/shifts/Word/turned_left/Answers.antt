-- `Word::turned_left` meets its contract.
use Rattle.word.proofs.ShiftLaws.{turned_fits, turned_by_mask}
use Rattle.word.proofs.shifts.Word.turned_left.Goals as goal

pub invariant_of-result : goal.invariant_of-result
invariant_of-result c = record { fits = rw (turned_by_mask _ _ c.requires c.args.self.fits) (turned_fits _ _ c.requires c.args.self.fits) }

pub returns : goal.returns
returns c = rw (turned_by_mask _ _ c.requires c.args.self.fits)
