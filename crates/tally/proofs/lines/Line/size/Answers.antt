-- `Line::size` meets its contract.
use Rattle.std.proofs.Common.{rules}
use Rattle.tally.proofs.Rows.{length-line_text}
use Rattle.tally.proofs.lines.Line.size.Goals as goal

pub returns : goal.returns
returns c = search (rules, length-line_text)
