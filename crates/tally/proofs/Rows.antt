-- The row of a word, and how long a line is. Assumes nothing.
use Rattle.std.proofs.Common.{◌≡◌, ℕ, ◌+◌, ◌*◌, Bool, cond, length, arith}
use Rattle.std.proofs.lemmas.List.{length-append}
use Rattle.word.proofs.Octal.{length_word}
use Rattle.word.specs.Sums.{modulus, carries, overflows}
use Rattle.tally.specs.Tally.{plus, line_text, row}

-- a line is the row of its word where its sum and its marks are
pub row_is : (s w t : ℕ) (c o : Bool) → t ≡ plus s w → c ≡ carries (modulus 36) s w → o ≡ overflows 36 s w → line_text w t c o ≡ row s w
row_is s w t c o p q r = λ i. line_text w (p i) (q i) (r i)

-- two words of twelve digits, a space between them, the marks, and a newline
pub length-line_text : (w t : ℕ) (c o : Bool) → length (line_text w t c o) ≡ 26 + cond c 1 0 * 6 + cond o 1 0 * 9
length-line_text w t c o = grind (arith, length-append, length_word)
