-- Partial words: which bits the selector j takes, what fills the rest, and what a store leaves.
--   Part                  a selector, from 0 to 15o
--   selector p            the number j of the part p
--   field j               start, width and fill of the field that j selects
--   Inside f              the field f has at least one bit and lies in a word
--   takes_sign            whether a fill is by the field's own sign
--   filled f v            the number v of the field f as a whole word
--   read f w              the field f of the word w, filled
--   stored f w v          w with the lowest bits of v in the field f
--   Apart s n f           the n bits from bit s up share none with the field f
--   ReadBits f w r        r is the field f of w, bit by bit: its own bits, and above them what fills
--   StoredBits f w v r    r is w with v stored in the field f: bit by bit, read back, and read elsewhere
use Rattle.std.specs.Prelude.{◌≡◌, ℕ, ◌+◌, ◌-◌, ◌*◌, ◌%◌, ◌^◌, ◌<◌, ◌≤◌, Bool, true, false, if◌then◌else◌, ◌&&◌, ◌⊎◌, nat_le}
use Rattle.word.specs.declared.up_to.UpTo.{UpTo}
use Rattle.word.specs.declared.fields.Field.{Field}
use Rattle.word.specs.declared.fields.Fill.{Fill}
use Rattle.word.specs.declared.fields.Fill.TheVariants.{Zeros, Sign}
use Rattle.word.specs.Bits.{bit, bits_at}
use Rattle.word.specs.Sums.{negative}

abbrev pub Part : Type 0
Part = UpTo 0o15

abbrev pub selector : Part → ℕ
selector p = p.number

-- j 0 is the whole word, 1 and 2 the halves filled with zeros, 3 and 4 the halves filled with their sign,
-- 5 to 7 the thirds filled with their sign, 10o to 15o the sixths filled with zeros; each group from the right
abbrev pub field : ℕ → Field
field j =
    if nat_le 0o10 j then record { start = 6 * (j - 0o10); width = 6; fill = Zeros }
    else if nat_le 5 j then record { start = 12 * (j - 5); width = 12; fill = Sign }
    else if nat_le 3 j then record { start = 18 * (j - 3); width = 18; fill = Sign }
    else if nat_le 1 j then record { start = 18 * (j - 1); width = 18; fill = Zeros }
    else record { start = 0; width = 36; fill = Zeros }

pub record Inside (f : Field) : Type 0 where
  pub some : 0 < f.width
  pub within : f.start + f.width ≤ 36

abbrev pub takes_sign : Fill → Bool
takes_sign Zeros = false
takes_sign Sign = true

abbrev pub filled : Field → ℕ → ℕ
filled f v = if takes_sign f.fill && negative f.width v then 2 ^ 36 - 2 ^ f.width + v else v

abbrev pub read : Field → ℕ → ℕ
read f w = filled f (bits_at f.start f.width w)

abbrev pub stored : Field → ℕ → ℕ → ℕ
stored f w v = w - bits_at f.start f.width w * 2 ^ f.start + v % 2 ^ f.width * 2 ^ f.start

abbrev pub Apart : ℕ → ℕ → Field → Type 0
Apart s n f = (s + n ≤ f.start) ⊎ (f.start + f.width ≤ s)

pub record ReadBits (f : Field) (w r : ℕ) : Type 0 where
  pub inside : (i : ℕ) → i < f.width → bit i r ≡ bit (f.start + i) w
  pub above : (i : ℕ) → f.width ≤ i → i < 36 → bit i r ≡ (if takes_sign f.fill then bit (f.start + (f.width - 1)) w else 0)

pub record StoredBits (f : Field) (w v r : ℕ) : Type 0 where
  pub inside : (i : ℕ) → i < f.width → bit (f.start + i) r ≡ bit i v
  pub outside : (i : ℕ) → Apart i 1 f → bit i r ≡ bit i w
  pub reads_back : read f r ≡ filled f (v % 2 ^ f.width)
  pub others_stay : (g : Field) → Apart g.start g.width f → read g r ≡ read g w
