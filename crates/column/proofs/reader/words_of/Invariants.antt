-- What the reading of words keeps.
use Rattle.std.proofs.Common.{◌≡◌, ◌++◌, map, vec_items}
use Rattle.word.specs.Digits.{word_digits}
use Rattle.column.specs.Column.{lines, AllWords, numbers}
use Rattle.column.proofs.reader.words_of.Given as goal

-- the lines that are left are words, and the words so far write the lines before them
abbrev pub invariant-loop-line : goal.invariant-loop-line
invariant-loop-line l =
    let left = lines l.line-iterator.0.now in
    AllWords left × (map word_digits (numbers (vec_items l.words)) ++ left ≡ lines l.text)
