-- A word written in octal digits, and the reading of such a text.
--   octal k w       the lowest k octal digits of w as bytes, the highest first
--   word_digits w   the twelve digits of a word
--   is_octal b      whether the byte b is an octal digit
--   front bs        how many octal digits bs begins with
--   number_after n bs   the number that n, followed by the octal digits bs, writes
--   number bs       the number that the octal digits bs write, the highest first
--   reading bs      what bs reads as: the number of a word, or why it is none
--   number_of r     the same result, with the number in place of the word
--   explanation e   the text that says why
use Rattle.std.specs.Prelude.{ℕ, zero, suc, ◌+◌, ◌-◌, ◌*◌, ◌/◌, ◌%◌, ◌^◌, min, Bool, if◌then◌else◌, ◌&&◌, List, [], ◌∷◌, ◌++◌, length, Ok, Err, codes, decimal, Result, nat_le, nat_lt}
use Rattle.std.specs.List.{prefix_len}
use Rattle.word.specs.Words.{Word}
use Rattle.word.specs.declared.digits.DigitsError.{DigitsError}
use Rattle.word.specs.declared.digits.DigitsError.TheVariants.{NotOctal, TooShort, TooLong}

-- 48 is the byte of the digit 0
abbrev pub octal : ℕ → ℕ → List ℕ
octal zero w = []
octal (suc k) w = (48 + w / 8 ^ k % 8) ∷ octal k w

unfoldable pub word_digits : ℕ → List ℕ
word_digits w = octal 12 w

abbrev pub is_octal : ℕ → Bool
is_octal b = nat_le 48 b && nat_le b 55

abbrev pub front : List ℕ → ℕ
front bs = prefix_len is_octal bs

abbrev pub number_after : ℕ → List ℕ → ℕ
number_after n [] = n
number_after n (b ∷ bs) = number_after (n * 8 + (b - 48)) bs

abbrev pub number : List ℕ → ℕ
number bs = number_after 0 bs

abbrev pub reading : List ℕ → Result ℕ DigitsError
reading bs =
    if nat_lt (front bs) (min 12 (length bs)) then Err (NotOctal (front bs))
    else if nat_lt (length bs) 12 then Err (TooShort (length bs))
    else if nat_lt 12 (length bs) then Err (TooLong (length bs))
    else Ok (number bs)

abbrev pub number_of : Result Word DigitsError → Result ℕ DigitsError
number_of (Ok w) = Ok w.bits
number_of (Err e) = Err e

abbrev pub explanation : DigitsError → List ℕ
explanation (NotOctal place) = codes "no octal digit at place " ++ decimal place
explanation (TooShort count) = decimal count ++ codes " digits where 12 are wanted"
explanation (TooLong count) = decimal count ++ codes " bytes where 12 are wanted"
