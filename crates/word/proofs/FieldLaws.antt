-- What reading and storing a field give, bit by bit. Assumes nothing.
use Rattle.std.proofs.Common.{◌≡◌, ℕ, ◌+◌, ◌-◌, ◌*◌, ◌/◌, ◌%◌, ◌^◌, ◌<◌, ◌≤◌, Bool, true, false, cond, ◌&&◌, ◌⊎◌, sym, refl, ap, ◌∙◌, subst, ⊎_elim, mod-lt, add-mul, arith, pow_pos, pow-add, shl_exact, shr_lt}
use native.Mathlib.Nat.{div-eq_of_lt, div-eq_of_lt-le}
use lib.Arith.{digits_lt}
use lib.Bits.{bit_and}
use lib.Pow.{split, high, low, high_ones}
use Rattle.std.proofs.lemmas.Nat.{and_mask}
use Rattle.std.proofs.lemmas.Nat.Bits.{bit_at_above, bit_at_ones}
use Rattle.std.proofs.lemmas.Bool.{cases_lt, le-leb, lt-leb}
use Rattle.std.proofs.lemmas.Bool.Decides.{nat_tests}
use Rattle.word.specs.declared.fields.Field.{Field}
use Rattle.word.specs.Bits.{bit, bits_at}
use Rattle.word.specs.Parts.{Inside, StoredBits, ReadBits, takes_sign, filled, read, stored, field}
use Rattle.word.specs.Sums.{negative}
use Rattle.word.proofs.Bitwise.{even, high_end, low_end, of_low, of_high}

-- w as what stands above the field, the field and what stands below it; the same with a value in the field
module _ (s n w v : ℕ) where
  pub joined : ℕ → ℕ
  joined x = (w / 2 ^ s / 2 ^ n * 2 ^ n + x) * 2 ^ s + w % 2 ^ s

  whole : joined (bits_at s n w) ≡ w
  unfolding joined
  whole = ap (λ x. x * 2 ^ s + w % 2 ^ s) (split (w / 2 ^ s) n) ∙ split w s

  apart : (x : ℕ) → joined x ≡ w / 2 ^ s / 2 ^ n * 2 ^ n * 2 ^ s + x * 2 ^ s + w % 2 ^ s
  unfolding joined
  apart x = ap (λ y. y + w % 2 ^ s) (add-mul (w / 2 ^ s / 2 ^ n * 2 ^ n) x (2 ^ s))

  pub taken_out : bits_at s n w * 2 ^ s ≤ w
  taken_out = omega (arith, whole, apart (bits_at s n w))

  pub put_in : w - bits_at s n w * 2 ^ s + v % 2 ^ n * 2 ^ s ≡ joined (v % 2 ^ n)
  put_in = omega (arith, whole, apart (bits_at s n w), apart (v % 2 ^ n))

  pub fits : s + n ≤ 36 → w < 2 ^ 36 → joined (v % 2 ^ n) < 2 ^ 36
  unfolding joined
  fits h word =
      let r = 36 - s - n in
      let whole : r + n + s ≡ 36 = omega arith in
      let top = shr_lt {n = w / 2 ^ s} r n (shr_lt {n = w} (r + n) s (subst (λ k. w < 2 ^ k) (sym whole) word)) in
      subst (λ k. joined (v % 2 ^ n) < 2 ^ k) whole (rw (pow-add 2 (r + n) s, pow-add 2 r n) (digits_lt (digits_lt top (mod-lt v (pow_pos n))) (mod-lt w (pow_pos s))))

  -- bits outside the field do not depend on what is in it
  outside : (x i k : ℕ) → x < 2 ^ n → (i + k ≤ s) ⊎ (s + n ≤ i) → bits_at i k (joined x) ≡ bits_at i k (joined (bits_at s n w))
  unfolding joined
  outside x i k h o =
      let top = w / 2 ^ s / 2 ^ n in
      let low_of : (y : ℕ) → i + k ≤ s → bits_at i k (joined y) ≡ bits_at i k (w % 2 ^ s) = λ y below. of_low i k s (top * 2 ^ n + y) (w % 2 ^ s) (mod-lt w (pow_pos s)) below in
      let high_of : (y : ℕ) → y < 2 ^ n → s + n ≤ i → bits_at i k (joined y) ≡ bits_at (i - s - n) k top =
      λ y lt over.
      let e : i ≡ s + (n + (i - s - n)) = omega arith in
      ap (λ j. bits_at j k (joined y)) e ∙ of_high (n + (i - s - n)) k s (top * 2 ^ n + y) (w % 2 ^ s) (mod-lt w (pow_pos s)) ∙ of_high (i - s - n) k n top y lt in
      ⊎_elim
      (λ below. low_of x below ∙ sym (low_of (bits_at s n w) below))
      (λ over. high_of x h over ∙ sym (high_of (bits_at s n w) (mod-lt (w / 2 ^ s) (pow_pos n)) over))
      o

  pub kept : (i k : ℕ) → (i + k ≤ s) ⊎ (s + n ≤ i) → bits_at i k (joined (v % 2 ^ n)) ≡ bits_at i k w
  kept i k o = outside (v % 2 ^ n) i k (mod-lt v (pow_pos n)) o ∙ ap (bits_at i k) whole

  pub moved : (i : ℕ) → i < n → bit (s + i) (joined (v % 2 ^ n)) ≡ bit i v
  unfolding joined
  moved i h =
      of_high i 1 s (w / 2 ^ s / 2 ^ n * 2 ^ n + v % 2 ^ n) (w % 2 ^ s) (mod-lt w (pow_pos s))
      ∙ of_low i 1 n (w / 2 ^ s / 2 ^ n) (v % 2 ^ n) (mod-lt v (pow_pos n)) (omega arith) ∙ low_end i 1 n v (omega arith)

  pub found : bits_at s n (joined (v % 2 ^ n)) ≡ v % 2 ^ n
  unfolding joined
  found =
      ap (λ y. y % 2 ^ n) (high (w / 2 ^ s / 2 ^ n * 2 ^ n + v % 2 ^ n) s (mod-lt w (pow_pos s)))
      ∙ low (w / 2 ^ s / 2 ^ n) n (mod-lt v (pow_pos n))

pub store_leaves : (f : Field) (w v : ℕ) → StoredBits f w v (stored f w v)
store_leaves f w v =
    let s = f.start in
    let n = f.width in
    let e = put_in s n w v in
    subst (StoredBits f w v) (sym e) (record {
      inside = moved s n w v;
      outside = λ i o. kept s n w v i 1 o;
      reads_back = ap (filled f) (found s n w v);
      others_stay = λ g o. ap (filled g) (kept s n w v g.start g.width o);
    })

pub stored_fits : (f : Field) (w v : ℕ) → Inside f → w < 2 ^ 36 → stored f w v < 2 ^ 36
stored_fits f w v h word = subst (λ r. r < 2 ^ 36) (sym (put_in f.start f.width w v)) (fits f.start f.width w v h.within word)

-- every field that a selector names lies in a word
pub known_inside : (j : ℕ) → j < 14 → Inside (field j)
known_inside j h = record { some = grind (arith, nat_tests); within = grind (arith, nat_tests) }

-- a number of the field's width as a whole word: ones above it or nothing
module _ (f : Field) (v : ℕ) (inside : Inside f) (few : v < 2 ^ f.width) where
  ones_above : filled f v ≡ cond (takes_sign f.fill && negative f.width v) ((2 ^ (36 - f.width) - 1) * 2 ^ f.width + v) v
  ones_above =
      let within = inside.within in
      let e : (36 - f.width) + f.width ≡ 36 = omega arith in
      let t = subst (λ k. 2 ^ k - 2 ^ f.width ≡ (2 ^ (36 - f.width) - 1) * 2 ^ f.width) e (high_ones (36 - f.width) f.width) in
      ap (λ x. cond (takes_sign f.fill && negative f.width v) (x + v) v) t

  filled_low : (b : Bool) (i : ℕ) → i < f.width → bit i (cond b ((2 ^ (36 - f.width) - 1) * 2 ^ f.width + v) v) ≡ bit i v
  filled_low true i h = of_low i 1 f.width (2 ^ (36 - f.width) - 1) v few (omega arith)
  filled_low false i h = refl

  filled_high : (b : Bool) (i : ℕ) → f.width ≤ i → i < 36 → bit i (cond b ((2 ^ (36 - f.width) - 1) * 2 ^ f.width + v) v) ≡ cond b 1 0
  filled_high true i le lt =
      let e : i ≡ f.width + (i - f.width) = omega arith in
      ap (λ j. bit j ((2 ^ (36 - f.width) - 1) * 2 ^ f.width + v)) e ∙ of_high (i - f.width) 1 f.width (2 ^ (36 - f.width) - 1) v few
      ∙ bit_at_ones (36 - f.width) (i - f.width) (omega arith)
  filled_high false i le lt = bit_at_above v f.width i few le

  -- the sign of a field is its leftmost bit
  sign_bit : cond (negative f.width v) 1 0 ≡ bit (f.width - 1) v
  sign_bit =
      let p = 2 ^ (f.width - 1) in
      let whole = even f.width inside.some in
      ⊎_elim
      (λ (lt : v < p). ap (λ b. cond {A = ℕ} b 1 0) (lt-leb p v lt) ∙ sym (ap (λ q. q % 2) (div-eq_of_lt lt)))
      (λ (le : p ≤ v).
      let one : v / p ≡ 1 = div-eq_of_lt-le p {m = v} (omega arith) (omega arith) in
      ap (λ b. cond {A = ℕ} b 1 0) (le-leb p v le) ∙ sym (ap (λ q. q % 2) one))
      (cases_lt v p)

-- what fills is the sign where it is asked for, else 0
fill_bit : (t n : Bool) (x : ℕ) → cond {A = ℕ} n 1 0 ≡ x → cond {A = ℕ} (t && n) 1 0 ≡ cond t x 0
fill_bit true n x e = e
fill_bit false n x e = refl

pub read_gives : (f : Field) (w : ℕ) → Inside f → ReadBits f w (read f w)
read_gives f w h =
    let s = f.start in
    let n = f.width in
    let v = bits_at s n w in
    let few = mod-lt (w / 2 ^ s) (pow_pos n) in
    let t = takes_sign f.fill in
    let moved_down : (i : ℕ) → i < n → bit i v ≡ bit (s + i) w = λ i lt. low_end i 1 n (w / 2 ^ s) (omega arith) ∙ high_end i 1 s w in
    record {
      inside = λ i lt. ap (bit i) (ones_above f v h few) ∙ filled_low f v h few (t && negative n v) i lt ∙ moved_down i lt;
      above = λ i le lt. ap (bit i) (ones_above f v h few) ∙ filled_high f v h few (t && negative n v) i le lt ∙ fill_bit t (negative n v) (bit (s + (n - 1)) w) (sign_bit f v h few ∙ moved_down (n - 1) (omega (arith, h.some)));
    }

-- a number of the field's width, moved to the field, loses nothing among 64 bits
pub moved_whole : (f : Field) (x : ℕ) → Inside f → x < 2 ^ f.width → x * 2 ^ f.start % 2 ^ 64 ≡ x * 2 ^ f.start
moved_whole f x h lt = let within = h.within in shl_exact {a = x} f.width f.start 64 lt (omega arith)

moved_remainder : (f : Field) (x : ℕ) → Inside f → x % 2 ^ f.width * 2 ^ f.start % 2 ^ 64 ≡ x % 2 ^ f.width * 2 ^ f.start
moved_remainder f x h = moved_whole f (x % 2 ^ f.width) h (mod-lt x (pow_pos f.width))

-- as the code computes it
pub stored_by_code : (f : Field) (w v : ℕ) → Inside f → w - bits_at f.start f.width w * 2 ^ f.start % 2 ^ 64 + bit_and v (2 ^ f.width - 1) * 2 ^ f.start % 2 ^ 64 ≡ stored f w v
stored_by_code f w v inside = rw (and_mask v f.width, moved_remainder f (w / 2 ^ f.start) inside, moved_remainder f v inside)
