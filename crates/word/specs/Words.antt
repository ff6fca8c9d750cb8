-- A word and half a word, as definitions name them.
--   Word   a number of 36 bits
--   Half   a number of 18 bits
use Rattle.word.specs.declared.numbers.Number.{Number}

abbrev pub Word : Type 0
Word = Number 36

abbrev pub Half : Type 0
Half = Number 18
