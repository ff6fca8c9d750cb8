-- All lines are read.
use Rattle.std.proofs.Common.{rules}
use Rattle.column.proofs.Columns.{numbers_fit}
use Rattle.column.proofs.reader.words_of.Goals as goal

pub returns : goal.returns
returns c = search (rules, numbers_fit)
