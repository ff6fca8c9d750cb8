-- A width of 64 bits or more holds every number.
use Rattle.std.proofs.lemmas.Bool.{le-leb}
use Rattle.word.proofs.Widths.{fits_wide}
use Rattle.word.proofs.numbers.Number.holds.Goals as goal

pub returns-then-this-ge-BITS : goal.returns-then-this-ge-BITS
returns-then-this-ge-BITS g c =
    (λ _. fits_wide g.row.WIDTH c.args.number c.if-this-ge-BITS.true c.ranges.number.fits, λ _. le-leb 64 g.row.WIDTH c.if-this-ge-BITS.true)
