-- The answers of the reading: the first bad line, or the words.
use Rattle.std.proofs.Common.{Ok, Err, vec_items}
use Rattle.column.specs.declared.reader.ColumnError.TheVariants.{BadLine}
use Rattle.column.specs.Column.{numbers}
use Rattle.column.proofs.Columns.{back}
use Rattle.column.proofs.reader.read_column.Goals as goal

pub returns-in-Some : goal.returns-in-Some
returns-in-Some c =
    let bad = c.in-Some.ensures in
    record { reply = bad; back = back c.args.text.now (Err (BadLine c.in-Some.line)) bad }

pub returns-in_ok-words_of-in-None-clause-back : goal.returns-in_ok-words_of-in-None-clause-back
returns-in_ok-words_of-in-None-clause-back c =
    back c.args.text.now (Ok (numbers (vec_items c.in_ok-words_of-in-None.field-0))) c.in_ok-words_of-in-None.ensures
