-- The report on a column of words, which the machine adds up in a register that holds +0 at first.
--   plus s w         the register s after the word w was added to it
--   line_text w t c o   the line of the word w: the sum t, and whether it carried and overflowed
--   row s w          the line of w where the register held s before
--   rows s ws        the lines of the words ws, one after the other
--   total s ws       the register after all of them
--   closing n t      the three lines at the end, of n words with the total t
--   statement ws     the whole report on the words ws
--   bad n            the report on an input whose first bad line is line n
--   Refuses e out    out is the report on an input that could not be read, for the reason e
--   GoodReport bs out    bs is a column of words, and out is the whole report on them
--   BadReport bs out     bs has a first bad line, and out names it
--   Reports bs out   out is the report on the input bs
use Rattle.std.specs.Prelude.{◌≡◌, ℕ, Bool, if◌then◌else◌, ◌⊎◌, List, [], ◌∷◌, ◌++◌, length, codes, decimal}
use Rattle.std.specs.Fmt.{signed_decimal}
use Rattle.word.specs.Digits.{word_digits}
use Rattle.word.specs.Sums.{modulus, sum, carries, overflows, value}
use Rattle.column.specs.declared.reader.ColumnError.{ColumnError}
use Rattle.column.specs.declared.reader.ColumnError.TheVariants.{BadLine, Memory}
use Rattle.column.specs.Column.{newline, lines, FirstBad, ColumnOf}

abbrev pub plus : ℕ → ℕ → ℕ
plus s w = sum (modulus 36) s w

abbrev pub line_text : ℕ → ℕ → Bool → Bool → List ℕ
line_text w t c o =
    word_digits w ++ (codes " " ++ (word_digits t ++ ((if c then codes " carry" else []) ++ ((if o then codes " overflow" else []) ++ newline ∷ []))))

abbrev pub row : ℕ → ℕ → List ℕ
row s w = line_text w (plus s w) (carries (modulus 36) s w) (overflows 36 s w)

abbrev pub rows : ℕ → List ℕ → List ℕ
rows s [] = []
rows s (w ∷ ws) = row s w ++ rows (plus s w) ws

abbrev pub total : ℕ → List ℕ → ℕ
total s [] = s
total s (w ∷ ws) = total (plus s w) ws

abbrev pub closing : ℕ → ℕ → List ℕ
closing n t =
    codes "lines " ++ (decimal n ++ (newline ∷ codes "total " ++ (word_digits t ++ (newline ∷ codes "value " ++ (signed_decimal (value 36 t) ++ newline ∷ [])))))

abbrev pub statement : List ℕ → List ℕ
statement ws = rows 0 ws ++ closing (length ws) (total 0 ws)

abbrev pub bad : ℕ → List ℕ
bad n = codes "bad line " ++ (decimal n ++ newline ∷ [])

-- without memory there is no report
abbrev pub Refuses : ColumnError → List ℕ → Type 0
Refuses (BadLine n) out = out ≡ bad n
Refuses Memory out = ⊥

pub record GoodReport (bs out : List ℕ) : Type 0 where
  pub words : List ℕ
  pub column : ColumnOf bs words
  pub text : out ≡ statement words

pub record BadReport (bs out : List ℕ) : Type 0 where
  pub line : ℕ
  pub first : FirstBad line (lines bs)
  pub text : out ≡ bad line

abbrev pub Reports : List ℕ → List ℕ → Type 0
Reports bs out = GoodReport bs out ⊎ BadReport bs out
