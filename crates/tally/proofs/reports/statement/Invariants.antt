-- What the writing of the rows keeps.
use Rattle.std.proofs.Common.{◌≡◌, ◌++◌, length, drop, string_bytes}
use Rattle.column.specs.Column.{numbers}
use Rattle.tally.specs.Tally.{rows, total, closing, statement}
use Rattle.tally.proofs.reports.statement.Given as goal

-- what is written, with the rows and the closing that are left, is the whole report
abbrev pub invariant-loop-word : goal.invariant-loop-word
invariant-loop-word l =
    let left = numbers (drop l.word-index l.words) in
    string_bytes l.out ++ (rows l.register.bits left ++ closing (length l.words) (total l.register.bits left)) ≡ statement (numbers l.words)
