-- Text cut into lines. Assumes nothing.
use Rattle.std.proofs.Common.{one-add, add-one, ◌≡◌, ℕ, ◌+◌, ◌-◌, ◌<◌, ◌≤◌, Bool, true, false, cond, not, eqb, List, [], ◌∷◌, ◌++◌, length, take, drop, refl, ap, ◌∙◌, arith}
use Rattle.std.proofs.lemmas.List.{length-drop, drop-drop}
use Rattle.std.proofs.lemmas.Bool.Decides.{nat_tests}
use Rattle.word.specs.Digits.{front}
use Rattle.word.proofs.Octal.{first_octal}
use Rattle.column.specs.Column.{newline, line_length, put_before, lines}

-- t says whether the byte b is a newline
cut : (t : Bool) (b : ℕ) (bs : List ℕ) → (0 < length bs → lines bs ≡ take (line_length bs) bs ∷ lines (drop (line_length bs + 1) bs)) → cond t ([] ∷ lines bs) (put_before b (lines bs)) ≡ take (cond (not t) (1 + line_length bs) 0) (b ∷ bs) ∷ lines (drop (cond (not t) (1 + line_length bs) 0 + 1) (b ∷ bs))
cut true b bs more = refl
cut false b [] more = refl
cut false b (x ∷ xs) more = ap (put_before b) (more (omega arith)) ∙ simp (one-add, add-one)

-- the first line, and the lines after its newline
pub first_line : (bs : List ℕ) → 0 < length bs → lines bs ≡ take (line_length bs) bs ∷ lines (drop (line_length bs + 1) bs)
first_line [] h = absurd (omega arith)
first_line (b ∷ bs) h = cut (eqb b newline) b bs (first_line bs)

-- the same from a place in a text
pub line_at : (text : List ℕ) (start end : ℕ) → start < length text → end ≡ start + line_length (drop start text) → lines (drop start text) ≡ take (end - start) (drop start text) ∷ lines (drop (end + 1) text)
line_at text start end h e =
    let n = line_length (drop start text) in
    let some : 0 < length (drop start text) = simp length-drop (omega arith) in
    let a : n ≡ end - start = omega arith in
    let b : start + (n + 1) ≡ end + 1 = omega arith in
    first_line (drop start text) some ∙ (λ i. take (a i) (drop start text) ∷ lines (drop-drop (n + 1) start text i)) ∙ ap (λ k. take (end - start) (drop start text) ∷ lines (drop k text)) b

-- a byte makes one line more at most
one_more : (t : Bool) (b : ℕ) (ls : List (List ℕ)) → length (cond t ([] ∷ ls) (put_before b ls)) ≤ 1 + length ls
one_more true b ls = omega arith
one_more false b [] = omega arith
one_more false b (l ∷ ls) = omega arith

-- there are no more lines than bytes
pub length-lines : (bs : List ℕ) → length (lines bs) ≤ length bs
length-lines [] = omega arith
length-lines (b ∷ bs) = omega (arith, one_more (eqb b newline) b (lines bs), length-lines bs)

-- digits with a newline after them are a line
pub digits_line : (ds rest : List ℕ) → front ds ≡ length ds → lines (ds ++ newline ∷ rest) ≡ ds ∷ lines rest
digits_line [] rest e = refl
digits_line (d ∷ ds) rest e =
    let f = first_octal d ds e in
    let n : eqb d newline ≡ false = grind (arith, nat_tests, f.0) in
    rw (n, digits_line ds rest f.2)
