-- Octal digits: what is written reads back, and what is read writes back. Assumes nothing.
use Rattle.std.proofs.Common.{◌≡◌, ℕ, zero, suc, ◌+◌, ◌-◌, ◌*◌, ◌/◌, ◌%◌, ◌^◌, ◌<◌, ◌≤◌, List, [], ◌∷◌, length, get_or, drop, set, Ok, IsUtf8, IsAscii, sym, refl, ap, ◌∙◌, mod-lt, mul_assoc, add-mul, pow-suc, zero-mul, arith}
use native.Mathlib.Nat.{pow-succ', div-div-eq-div-mul}
use lib.Arith.{digits_lt, digits_div, mod-mul}
use Rattle.std.proofs.lemmas.List.{drop-set, drop_more}
use Rattle.std.proofs.lemmas.Bool.Decides.{nat_tests}
use Rattle.std.proofs.lemmas.Str.Ascii.{IsAscii-nil, IsAscii-cons}
use Rattle.std.proofs.lemmas.Str.{IsUtf8-from_ascii}
use Rattle.word.specs.Digits.{octal, word_digits, front, number_after, number, reading}

-- 8 ^ k is not 0
pub eights : (k : ℕ) → 0 < 8 ^ k
eights zero = omega arith
eights (suc k) = let h = eights k in omega (arith, pow-succ' 8 k)

pub length-octal : (k w : ℕ) → length (octal k w) ≡ k
length-octal zero w = refl
length-octal (suc k) w = ap suc (length-octal k w)

pub front-octal : (k w : ℕ) → front (octal k w) ≡ k
front-octal zero w = refl
front-octal (suc k) w =
    let h = mod-lt (w / 8 ^ k) {m = 8} (omega arith) in
    let e = front-octal k w in
    grind (arith, nat_tests)

-- a text of digits begins with one, and goes on with digits
pub first_octal : (b : ℕ) (bs : List ℕ) → front (b ∷ bs) ≡ length (b ∷ bs) → (48 ≤ b) × (b ≤ 55) × (front bs ≡ length bs)
first_octal b bs e = grind (arith, nat_tests)

-- digits after n write n times a power of eight, and less than that power more
pub split : (n : ℕ) (bs : List ℕ) → front bs ≡ length bs → (r : ℕ) × (number_after n bs ≡ n * 8 ^ length bs + r) × (r < 8 ^ length bs)
split n [] e = (0, omega arith, omega arith)
split n (b ∷ bs) e =
    let f = first_octal b bs e in
    let s = split (n * 8 + (b - 48)) bs f.2 in
    let p = 8 ^ length bs in
    let d = b - 48 in
    let q = pow-succ' 8 (length bs) in
    let x = add-mul (n * 8) d p in
    let y = mul_assoc n 8 p in
    let z : d * p + s.0 < 8 * p = digits_lt (omega (arith, f.0, f.1)) s.2 in
    (d * p + s.0, omega (arith, ap (λ t. n * t) q, s.1), omega arith)

pub number_lt : (bs : List ℕ) → front bs ≡ length bs → number bs < 8 ^ length bs
number_lt bs e = let s = split 0 bs e in omega (arith, s.1, s.2, zero-mul (8 ^ length bs))

pub number_after_ge : (n : ℕ) (bs : List ℕ) → n ≤ number_after n bs
number_after_ge n [] = omega arith
number_after_ge n (b ∷ bs) = let h = number_after_ge (n * 8 + (b - 48)) bs in omega arith

-- what is written reads back
pub number_octal : (n k w : ℕ) → number_after n (octal k w) ≡ n * 8 ^ k + w % 8 ^ k
number_octal n zero w = omega arith
number_octal n (suc k) w =
    let p = 8 ^ k in
    let d = w / 8 ^ k % 8 in
    let e = number_octal (n * 8 + (48 + d - 48)) k w in
    let q = pow-succ' 8 k in
    let c : n * 8 + (48 + d - 48) ≡ n * 8 + d = omega arith in
    let x = add-mul (n * 8) d p in
    let y = mul_assoc n 8 p in
    let m = mod-mul w {m = 8} {c = p} (omega arith) (eights k) in
    e ∙ omega (arith, ap (λ t. t * p) c, ap (λ t. n * t) q, ap (λ t. w % t) q)

pub front_word : (w : ℕ) → front (word_digits w) ≡ 12
unfolding word_digits
front_word w = front-octal 12 w

pub length_word : (w : ℕ) → length (word_digits w) ≡ 12
unfolding word_digits
length_word w = length-octal 12 w

pub number_word : (w : ℕ) → w < 2 ^ 36 → number (word_digits w) ≡ w
unfolding word_digits
number_word w h = number_octal 0 12 w ∙ omega arith

pub reading_back : (w : ℕ) → w < 2 ^ 36 → reading (word_digits w) ≡ Ok w
reading_back w h = simp (front_word, length_word, number_word w h)

-- what is read writes back
pub octal_number : (n : ℕ) (bs : List ℕ) → front bs ≡ length bs → octal (length bs) (number_after n bs) ≡ bs
octal_number n [] e = refl
octal_number n (b ∷ bs) e =
    let f = first_octal b bs e in
    let d = b - 48 in
    let m = n * 8 + d in
    let s = split m bs f.2 in
    let q : number_after m bs / 8 ^ length bs ≡ m = ap (λ t. t / 8 ^ length bs) s.1 ∙ digits_div m s.2 in
    let h : 48 + number_after m bs / 8 ^ length bs % 8 ≡ b = ap (λ t. 48 + t % 8) q ∙ omega (arith, f.0, f.1) in
    λ i. h i ∷ octal_number m bs f.2 i

pub written_back : (bs : List ℕ) → length bs ≡ 12 → front bs ≡ 12 → word_digits (number bs) ≡ bs
unfolding word_digits
written_back bs l f = ap (λ k. octal k (number bs)) (sym l) ∙ octal_number 0 bs (f ∙ sym l)

-- one more digit is written, at the place before p
pub digit_written : (text : List ℕ) (p w left : ℕ) → length text ≡ 12 → p ≤ 12 → 0 < p → drop p text ≡ octal (12 - p) w → left ≡ w / 8 ^ (12 - p) → (drop (p - 1) (set text (p - 1) (48 + left % 8)) ≡ octal (12 - (p - 1)) w) × (left / 8 ≡ w / 8 ^ (12 - (p - 1)))
digit_written text p w left l h z d e =
    let k : 12 - (p - 1) ≡ suc (12 - p) = omega arith in
    let n : p - 1 + 1 ≡ p = omega arith in
    let s = drop-set text (p - 1) (48 + left % 8) (omega arith) in (
      s ∙ ap (λ m. (48 + left % 8) ∷ drop m text) n ∙ (λ i. (48 + e i % 8) ∷ d i) ∙ ap (λ m. octal m w) (sym k),
      ap (λ m. m / 8) e ∙ div-div-eq-div-mul w (8 ^ (12 - p)) 8 ∙ ap (λ m. w / m) (sym (pow-suc 8 (12 - p))) ∙ ap (λ m. w / 8 ^ m) (sym k),
    )

-- a number so far, with the digit at the place i, is not above the whole number
pub digit_bound : (text : List ℕ) (i total n : ℕ) → i < length text → number_after total (drop i text) ≡ n → total * 8 + (get_or text i 0 - 48) ≤ n
digit_bound text i total n h e =
    let b = get_or text i 0 in
    let r : number_after (total * 8 + (b - 48)) (drop (i + 1) text) ≡ n = sym (ap (number_after total) (drop_more text i 0 h)) ∙ e in
    omega (arith, number_after_ge (total * 8 + (b - 48)) (drop (i + 1) text))

-- one more digit is read, at the place i
pub record ReadMore (text : List ℕ) (i total n : ℕ) : Type 0 where
  pub low : 48 ≤ get_or text i 0
  pub high : get_or text i 0 ≤ 55
  pub rest : number_after (total * 8 + (get_or text i 0 - 48)) (drop (i + 1) text) ≡ n
  pub digits : front (drop (i + 1) text) ≡ length (drop (i + 1) text)
  pub bound : total * 8 + (get_or text i 0 - 48) ≤ n

pub digit_read : (text : List ℕ) (i total n : ℕ) → i < length text → number_after total (drop i text) ≡ n → front (drop i text) ≡ length (drop i text) → ReadMore text i total n
digit_read text i total n h e f =
    let b = get_or text i 0 in
    let d = drop_more text i 0 h in
    let x = first_octal b (drop (i + 1) text) (sym (ap front d) ∙ f ∙ ap length d) in
    let r : number_after (total * 8 + (b - 48)) (drop (i + 1) text) ≡ n = sym (ap (number_after total) d) ∙ e in
    record { low = x.0; high = x.1; rest = r; digits = x.2; bound = digit_bound text i total n h e }

-- twelve digits write less than 2 ^ 36
pub number_small : (bs : List ℕ) → front bs ≡ length bs → length bs ≡ 12 → number bs < 2 ^ 36
number_small bs f l = let h = number_lt bs f in let p : 8 ^ length bs ≡ 2 ^ 36 = ap (λ k. 8 ^ k) l in omega arith

-- digits are text
ascii_octal : (k w : ℕ) → IsAscii (octal k w)
ascii_octal zero w = IsAscii-nil
ascii_octal (suc k) w = let h = mod-lt (w / 8 ^ k) {m = 8} (omega arith) in IsAscii-cons (48 + w / 8 ^ k % 8) (octal k w) (omega arith) (ascii_octal k w)

pub utf8_word : (w : ℕ) → IsUtf8 (word_digits w)
unfolding word_digits
utf8_word w = IsUtf8-from_ascii (octal 12 w) (ascii_octal 12 w)
