-- At a width of 64 bits or more a number stays whole.
use Rattle.word.proofs.Widths.{fits_wide}
use Rattle.word.proofs.numbers.Number.of_lowest.Goals as goal

pub invariant_of-result : goal.invariant_of-result
invariant_of-result g c = record { fits = fits_wide g.row.WIDTH c.args.number c.if-this-ge-BITS.true c.ranges.number.fits }
