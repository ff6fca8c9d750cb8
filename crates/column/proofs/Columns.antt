-- The lines of a column: the first bad one, the words that they are, and a column that was written. Assumes nothing.
use Rattle.std.proofs.Common.{◌≡◌, ℕ, zero, suc, ◌+◌, ◌-◌, ◌<◌, ◌≤◌, List, [], ◌∷◌, ◌++◌, map, length, get_or, drop, is_ok, Ok, Err, Result, sym, refl, ap, ◌∙◌, subst, append_assoc, append-nil, arith}
use Rattle.std.proofs.lemmas.List.{map_push, drop_all}
use Rattle.std.proofs.lemmas.List.Sums.{prefix_len-le-length}
use Rattle.std.proofs.lemmas.Bool.Decides.{nat_tests}
use Rattle.std.proofs.lemmas.List.Elements.{All-from_recursion, recursion_from_All, All-from_all_within}
use Rattle.std.specs.List.{AllWithin, HoldsAt}
use Rattle.word.specs.Words.{Word}
use Rattle.word.specs.Digits.{word_digits, is_octal, front, number}
use Rattle.word.proofs.Octal.{front_word, length_word, number_word, number_small, reading_back, written_back}
use Rattle.column.specs.declared.reader.ColumnError.{ColumnError}
use Rattle.column.specs.declared.reader.ColumnError.TheVariants.{BadLine, Memory}
use Rattle.column.specs.Column.{lines, Words, IsWord, AllWords, Bad, FirstBad, ColumnOf, GoodColumn, written, numbers, Reads, ReadsBack}
use Rattle.column.proofs.Cuts.{digits_line}

pub numbers_fit : (ws : List Word) → Words (numbers ws)
numbers_fit [] = tt
numbers_fit (w ∷ ws) = (w.fits, numbers_fit ws)

-- numbers of words are written as words
written_words : (ns : List ℕ) → Words ns → AllWords (map word_digits ns)
written_words [] f = tt
written_words (n ∷ ns) f = (ap is_ok (reading_back n f.0), written_words ns f.1)

-- among words no line is bad
none_bad : (n : ℕ) (ls : List (List ℕ)) → AllWords ls → FirstBad n ls → ⊥
none_bad n ls w f = cc (All-from_recursion IsWord ls w (n - 1) [] (omega (arith, f.from_one, f.within)), f.bad)

-- lines that are words, each by its index
pub all_words : (ls : List (List ℕ)) → AllWithin IsWord ls 0 (length ls) → AllWords ls
all_words ls w = recursion_from_All IsWord ls (All-from_all_within IsWord ls w)

-- the number of the first bad line is one more than how many lines stand before it
pub first_bad : (ls : List (List ℕ)) (k : ℕ) → k < length ls → HoldsAt Bad ls k → AllWithin IsWord ls 0 k → FirstBad (k + 1) ls
first_bad ls k within bad words =
    let here : k ≡ k + 1 - 1 = omega arith in
    record {
      from_one = omega arith;
      within = omega arith;
      bad = subst (λ n. Bad (get_or ls n [])) here (bad []);
      before = λ j earlier bad_before. cc (words j [] (omega arith) (omega arith), bad_before);
    }

-- after a word no line before the bad one is bad
passed : (line : List ℕ) (ls : List (List ℕ)) (n : ℕ) → IsWord line → FirstBad n ls → (k : ℕ) → k < n → Bad (get_or (line ∷ ls) k []) → ⊥
passed line ls n w f zero h q = cc (w, q)
passed line ls n w f (suc k) h q = f.before k (omega arith) q

-- with a word put before the lines it is the first still, one line further on
pub bad_later : (line : List ℕ) (ls : List (List ℕ)) (n : ℕ) → IsWord line → FirstBad n ls → FirstBad (1 + n) (line ∷ ls)
bad_later line ls n w f =
    let e : suc (n - 1) ≡ 1 + n - 1 = omega (arith, f.from_one) in
    record {
      from_one = omega arith;
      within = omega (arith, f.within);
      bad = subst (λ k. Bad (get_or (line ∷ ls) k [])) e f.bad;
      before = λ k h. passed line ls n w f k (omega arith);
    }

-- one more line is read
pub word_read : (ws vs : List Word) (w : Word) (line : List ℕ) (left rest all : List (List ℕ)) → left ≡ line ∷ rest → vs ≡ ws ++ w ∷ [] → word_digits w.bits ≡ line → map word_digits (numbers ws) ++ left ≡ all → map word_digits (numbers vs) ++ rest ≡ all
word_read ws vs w line left rest all s v d inv = rw (v, map_push (λ (u : Word). u.bits) ws w, map_push word_digits (numbers ws) w.bits, append_assoc, d, ← s) inv

-- all lines are read
pub all_read : (ws : List Word) (text : List ℕ) (start : ℕ) → length text ≤ start → map word_digits (numbers ws) ++ lines (drop start text) ≡ lines text → ColumnOf text (numbers ws)
all_read ws text start h inv =
    let read = map word_digits (numbers ws) in
    record { fit = numbers_fit ws; digits = sym (append-nil read) ∙ ap (λ t. read ++ lines t) (sym (drop_all start text h)) ∙ inv }

written_lines : (ns : List ℕ) → lines (written ns) ≡ map word_digits ns
written_lines [] = refl
written_lines (n ∷ ns) = digits_line (word_digits n) (written ns) (front_word n ∙ sym (length_word n)) ∙ ap (λ ls. word_digits n ∷ ls) (written_lines ns)

-- words with the same digits are the same
read_off : (ns : List ℕ) → Words ns → map number (map word_digits ns) ≡ ns
read_off [] f = refl
read_off (n ∷ ns) f = λ i. number_word n f.0 i ∷ read_off ns f.1 i

twelve : (line : List ℕ) → IsWord line → (front line ≡ length line) × (length line ≡ 12)
twelve line w = let h = prefix_len-le-length is_octal line in grind (arith, nat_tests)

-- what words read as are numbers of words, which write them
numbers_read : (ls : List (List ℕ)) → AllWords ls → Words (map number ls) × (map word_digits (map number ls) ≡ ls)
numbers_read [] w = (tt, refl)
numbers_read (l ∷ ls) w =
    let t = twelve l w.0 in
    let more = numbers_read ls w.1 in
    ((number_small l t.0 t.1, more.0), λ i. written_back l t.1 (t.0 ∙ t.1) i ∷ more.1 i)

pub good_column : (bs : List ℕ) → AllWords (lines bs) → GoodColumn bs
good_column bs w = let r = numbers_read (lines bs) w in (map number (lines bs), record { fit = r.0; digits = r.1 })

pub back : (bs : List ℕ) (r : Result (List ℕ) ColumnError) → Reads bs r → ReadsBack bs r
back bs (Ok ms) c ns f e = sym (read_off ms c.fit) ∙ ap (map number) (c.digits ∙ ap lines e ∙ written_lines ns) ∙ read_off ns f
back bs (Err Memory) c ns f e = tt
back bs (Err (BadLine n)) c ns f e = none_bad n (lines bs) (subst AllWords (sym (ap lines e ∙ written_lines ns)) (written_words ns f)) c
