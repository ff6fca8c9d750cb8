-- A column of words: text with one word of twelve octal digits to a line.
--   newline          the byte that ends a line
--   line_length bs   how many bytes stand before the first newline, or at all where there is none
--   put_before b ls  the lines ls with the byte b before the first, or as a line of its own where there is none
--   lines bs         the text cut at its newlines: a newline ends a line, the last line may lack it,
--                    and nothing after a final newline is no line
--   IsWord line      the line reads as a word
--   AllWords ls      each line is a word
--   Bad line         the line is no word
--   FirstBad n ls    line n, counted from 1, is bad, and each line before it is a word
--   Words ns         each number of ns is that of a word
--   ColumnOf bs ns   the lines of bs are the digits of the numbers ns, which are words
--   GoodColumn bs    bs is the column of some numbers
--   written ns       the numbers ns as text, each with a newline after it
--   numbers ws       the numbers of words
--   numbers_of r     a result of the reading, with numbers in place of words
--   Reads bs r       r answers for bs: with its numbers, with its first bad line,
--                    or with a lack of memory, where bs is a good column
--   Exactly ns r     the answer is these numbers, unless memory lacked
--   ReadsBack bs r   text that was written from numbers reads as these numbers
--   explanation e    the text that says why a text was not read as a column
use Rattle.std.specs.Prelude.{◌≡◌, ℕ, ◌-◌, ◌^◌, ◌<◌, ◌≤◌, true, false, if◌then◌else◌, not, List, [], ◌∷◌, ◌++◌, map, length, is_ok, Ok, Err, codes, decimal, vec_items, Result, Vec, ◌==◌, slice_index_or}
use Rattle.std.specs.List.{prefix_len, AllByRecursion}
use Rattle.std.specs.declared.alloc.Global.{Global}
use Rattle.word.specs.Words.{Word}
use Rattle.word.specs.Digits.{word_digits, reading}
use Rattle.column.specs.declared.reader.ColumnError.{ColumnError}
use Rattle.column.specs.declared.reader.ColumnError.TheVariants.{BadLine, Memory}

abbrev pub newline : ℕ
newline = 10

abbrev pub line_length : List ℕ → ℕ
line_length bs = prefix_len (λ b. not (b == newline)) bs

abbrev pub put_before : ℕ → List (List ℕ) → List (List ℕ)
put_before b [] = (b ∷ []) ∷ []
put_before b (l ∷ ls) = (b ∷ l) ∷ ls

abbrev pub lines : List ℕ → List (List ℕ)
lines [] = []
lines (b ∷ bs) = if b == newline then [] ∷ lines bs else put_before b (lines bs)

abbrev pub IsWord : List ℕ → Type 0
IsWord line = is_ok (reading line) ≡ true

abbrev pub AllWords : List (List ℕ) → Type 0
AllWords ls = AllByRecursion IsWord ls

abbrev pub Bad : List ℕ → Type 0
Bad line = is_ok (reading line) ≡ false

pub record FirstBad (n : ℕ) (ls : List (List ℕ)) : Type 0 where
  pub from_one : 1 ≤ n
  pub within : n ≤ length ls
  pub bad : Bad (slice_index_or ls (n - 1) [])
  pub before : (k : ℕ) → k < n - 1 → Bad (slice_index_or ls k []) → ⊥

abbrev pub Words : List ℕ → Type 0
Words ns = AllByRecursion (λ n. n < 2 ^ 36) ns

pub record ColumnOf (bs ns : List ℕ) : Type 0 where
  pub fit : Words ns
  pub digits : map word_digits ns ≡ lines bs

abbrev pub GoodColumn : List ℕ → Type 0
GoodColumn bs = (ns : List ℕ) × ColumnOf bs ns

abbrev pub written : List ℕ → List ℕ
written [] = []
written (n ∷ ns) = word_digits n ++ newline ∷ written ns

abbrev pub numbers : List Word → List ℕ
numbers words = map (λ w. w.bits) words

abbrev pub numbers_of : Result (Vec Word Global) ColumnError → Result (List ℕ) ColumnError
numbers_of (Ok words) = Ok (numbers (vec_items words))
numbers_of (Err e) = Err e

abbrev pub Reads : List ℕ → Result (List ℕ) ColumnError → Type 0
Reads bs (Ok ns) = ColumnOf bs ns
Reads bs (Err (BadLine n)) = FirstBad n (lines bs)
Reads bs (Err Memory) = GoodColumn bs

abbrev pub Exactly : List ℕ → Result (List ℕ) ColumnError → Type 0
Exactly ns (Ok ms) = ms ≡ ns
Exactly ns (Err (BadLine n)) = ⊥
Exactly ns (Err Memory) = Unit {0}

abbrev pub ReadsBack : List ℕ → Result (List ℕ) ColumnError → Type 0
ReadsBack bs r = (ns : List ℕ) → Words ns → bs ≡ written ns → Exactly ns r

abbrev pub explanation : ColumnError → List ℕ
explanation (BadLine n) = codes "bad line " ++ decimal n
explanation Memory = codes "no memory for the words"
