-- What the shifts give: the numbers that the code computes, and the bits. Assumes nothing.
use Rattle.std.proofs.Common.{◌≡◌, ℕ, suc, ◌+◌, ◌-◌, ◌*◌, ◌/◌, ◌%◌, ◌^◌, ◌<◌, ◌≤◌, min, Bool, true, false, cond, ◌⊎◌, sym, refl, ap, ◌∙◌, subst, inl, inr, ⊎_elim, add-zero, mod-lt, mul_assoc, add_comm, pow-suc, arith, pow_pos, pow_mono, pow-add, shr_lt}
use native.Mathlib.Nat.{div-eq_of_lt, mul-mod_left, div-eq_of_lt-le}
use lib.Arith.{digits_lt, mod-mul}
use lib.Bits.{bit_and}
use lib.Count.{count_leading_zeros, leading_le, leading_length, leading_unique}
use lib.Pow.{shl-shr, mod-mod-pow, high_ones, ones_lt, shr_le}
use Rattle.std.proofs.lemmas.Nat.{and_mask}
use Rattle.std.proofs.lemmas.Nat.Bits.{bit_at_above, bit_at_ones, ones_shr, same_from_bits_below}
use Rattle.std.proofs.lemmas.Bool.{cases_lt, cond_both}
use Rattle.std.proofs.lemmas.Bool.Decides.{nat_tests}
use Rattle.word.specs.Bits.{bit}
use Rattle.word.specs.Shifts.{turned, left_circular, right_circular, left_logical, right_logical, right_algebraic, LeftCircularBits, RightCircularBits, LeftLogicalBits, RightLogicalBits, RightAlgebraicBits, turn_count, LeastTurn, Unlike}
use Rattle.word.specs.Sums.{modulus, negative, magnitude}
use Rattle.word.proofs.Bitwise.{low_end, high_end, of_low, of_high, behind, complement_bit}

-- the lower q bits moved up by p, at p + q places
moved_up : (p q w : ℕ) → w * 2 ^ p % 2 ^ (q + p) ≡ w % 2 ^ q * 2 ^ p
moved_up p q w =
    ap (λ m. w * 2 ^ p % m) (pow-add 2 q p) ∙ mod-mul (w * 2 ^ p) (pow_pos q) (pow_pos p)
    ∙ ap (λ y. y % 2 ^ q * 2 ^ p + w * 2 ^ p % 2 ^ p) (shl-shr w p)
    ∙ ap (λ y. w % 2 ^ q * 2 ^ p + y) (mul-mod_left w (2 ^ p)) ∙ add-zero (w % 2 ^ q * 2 ^ p)

module _ (p w : ℕ) (places : p ≤ 36) (word : w < 2 ^ 36) where
  ends : (36 - p) + p ≡ 36
  ends = omega arith

  -- the upper p bits
  upper : w / 2 ^ (36 - p) < 2 ^ p
  upper = shr_lt {n = w} p (36 - p) (subst (λ k. w < 2 ^ k) (sym ends ∙ add_comm (36 - p) p) word)

  pub turned_fits : turned p w < 2 ^ 36
  turned_fits =
      subst (λ m. turned p w < m) (sym (pow-add 2 (36 - p) p) ∙ ap (λ k. 2 ^ k) ends)
      (digits_lt (mod-lt w (pow_pos (36 - p))) upper)

  -- as the code computes it
  pub turned_by_mask : bit_and (w * 2 ^ p % 2 ^ 64) (2 ^ 36 - 1) ≡ w % 2 ^ (36 - p) * 2 ^ p
  turned_by_mask =
      and_mask (w * 2 ^ p % 2 ^ 64) 36 ∙ mod-mod-pow (w * 2 ^ p) 28 36
      ∙ subst (λ k. w * 2 ^ p % 2 ^ k ≡ w % 2 ^ (36 - p) * 2 ^ p) ends (moved_up p (36 - p) w)

  -- bit i goes to i + p, round the end
  pub turned_bits : (i : ℕ) → i < 36 → bit ((i + p) % 36) (turned p w) ≡ bit i w
  turned_bits i h =
      ⊎_elim
      (λ (lt : i + p < 36).
      let e : (i + p) % 36 ≡ p + i = omega arith in
      ap (λ j. bit j (turned p w)) e ∙ of_high i 1 p (w % 2 ^ (36 - p)) (w / 2 ^ (36 - p)) upper ∙ low_end i 1 (36 - p) w (omega arith))
      (λ (le : 36 ≤ i + p).
      let e : (i + p) % 36 ≡ i - (36 - p) = omega arith in
      let b : (36 - p) + (i - (36 - p)) ≡ i = omega arith in
      ap (λ j. bit j (turned p w)) e ∙ of_low (i - (36 - p)) 1 p (w % 2 ^ (36 - p)) (w / 2 ^ (36 - p)) upper (omega arith)
      ∙ high_end (i - (36 - p)) 1 (36 - p) w ∙ ap (λ j. bit j w) b)
      (cases_lt (i + p) 36)

pub left_circular_moves : (n w : ℕ) → w < 2 ^ 36 → LeftCircularBits n w (left_circular n w)
left_circular_moves n w h i lt =
    let e : (i + n) % 36 ≡ (i + n % 36) % 36 = omega arith in
    ap (λ j. bit j (left_circular n w)) e ∙ turned_bits (n % 36) w (omega arith) h i lt

pub right_circular_moves : (n w : ℕ) → w < 2 ^ 36 → RightCircularBits n w (right_circular n w)
right_circular_moves n w h i lt =
    let e : i ≡ ((i + n) % 36 + (36 - n % 36)) % 36 = omega arith in
    ap (λ j. bit j (right_circular n w)) e ∙ turned_bits (36 - n % 36) w (omega arith) h ((i + n) % 36) (omega arith)

-- a turn back undoes a turn
pub left_undone : (n w : ℕ) → w < 2 ^ 36 → right_circular n (left_circular n w) ≡ w
left_undone n w h =
    let t = turned_fits (n % 36) w (omega arith) h in
    same_from_bits_below 36 (right_circular n (left_circular n w)) w (turned_fits (36 - n % 36) (left_circular n w) (omega arith) t) h
    (λ i lt. right_circular_moves n (left_circular n w) t i lt ∙ left_circular_moves n w h i lt)

pub right_undone : (n w : ℕ) → w < 2 ^ 36 → left_circular n (right_circular n w) ≡ w
right_undone n w h =
    let t = turned_fits (36 - n % 36) w (omega arith) h in
    same_from_bits_below 36 (left_circular n (right_circular n w)) w (turned_fits (n % 36) (right_circular n w) (omega arith) t) h
    (λ i lt.
    let j = (i + (36 - n % 36)) % 36 in
    let e : i ≡ (j + n) % 36 = omega arith in
    ap (λ k. bit k (left_circular n (right_circular n w))) e ∙ left_circular_moves n (right_circular n w) t j (omega arith)
    ∙ right_circular_moves n w h j (omega arith) ∙ ap (λ k. bit k w) (sym e))

pub right_logical_moves : (n w : ℕ) → RightLogicalBits n w (right_logical n w)
right_logical_moves n w i = high_end i 1 n w ∙ ap (λ j. bit j w) (add_comm n i)

-- a word shifted by 36 places or more is gone
pub gone : (n w : ℕ) → w < 2 ^ 36 → w / 2 ^ min n 36 ≡ w / 2 ^ n
gone n w h =
    ⊎_elim
    (λ (lt : n < 36). let e : min n 36 ≡ n = omega arith in ap (λ k. w / 2 ^ k) e)
    (λ (le : 36 ≤ n).
    let e : min n 36 ≡ 36 = omega arith in
    ap (λ k. w / 2 ^ k) e ∙ div-eq_of_lt h ∙ sym (div-eq_of_lt (omega (arith, pow_mono le))))
    (cases_lt n 36)

pub gone_left : (n w : ℕ) → w * 2 ^ min n 36 % 2 ^ 36 ≡ w * 2 ^ n % 2 ^ 36
gone_left n w =
    ⊎_elim
    (λ (lt : n < 36). let e : min n 36 ≡ n = omega arith in ap (λ k. w * 2 ^ k % 2 ^ 36) e)
    (λ (le : 36 ≤ n).
    let e : min n 36 ≡ 36 = omega arith in
    let d : n ≡ (n - 36) + 36 = omega arith in
    ap (λ k. w * 2 ^ k % 2 ^ 36) e ∙ mul-mod_left w (2 ^ 36)
    ∙ sym (ap (λ k. w * 2 ^ k % 2 ^ 36) d ∙ ap (λ y. w * y % 2 ^ 36) (pow-add 2 (n - 36) 36) ∙ ap (λ y. y % 2 ^ 36) (sym (mul_assoc w (2 ^ (n - 36)) (2 ^ 36))) ∙ mul-mod_left (w * 2 ^ (n - 36)) (2 ^ 36)))
    (cases_lt n 36)

-- as the code computes it
pub left_by_mask : (n w : ℕ) → bit_and (w * 2 ^ min n 36 % 2 ^ 64) (2 ^ 36 - 1) ≡ left_logical n w
left_by_mask n w = and_mask (w * 2 ^ min n 36 % 2 ^ 64) 36 ∙ mod-mod-pow (w * 2 ^ min n 36) 28 36 ∙ gone_left n w

pub left_logical_moves : (n w : ℕ) → LeftLogicalBits n w (left_logical n w)
left_logical_moves n w = record {
  moved = λ i h. low_end (i + n) 1 36 (w * 2 ^ n) (omega arith) ∙ ap (λ j. bit j (w * 2 ^ n)) (add_comm i n) ∙ sym (high_end i 1 n (w * 2 ^ n)) ∙ ap (bit i) (shl-shr w n);
  zeros = λ i h. ⊎_elim
      (λ (lt : i < 36). low_end i 1 36 (w * 2 ^ n) (omega arith) ∙ behind i n w h)
      (λ (le : 36 ≤ i). bit_at_above (w * 2 ^ n % 2 ^ 36) 36 i (mod-lt (w * 2 ^ n) (pow_pos 36)) le)
      (cases_lt i 36);
}

-- the sign, as a test, as the leftmost bit and as a bound
signs : (w : ℕ) → w < 2 ^ 36 → ((w < 2 ^ 35) × (negative 36 w ≡ false) × (bit 35 w ≡ 0)) ⊎ ((2 ^ 35 ≤ w) × (negative 36 w ≡ true) × (bit 35 w ≡ 1))
signs w h =
    ⊎_elim
    (λ (lt : w < 2 ^ 35). inl (lt, grind (arith, nat_tests), omega arith))
    (λ (le : 2 ^ 35 ≤ w). inr (le, grind (arith, nat_tests), omega arith))
    (cases_lt w (2 ^ 35))

-- the ones that come in for a sign
sign_fill : (p : ℕ) → p ≤ 36 → 2 ^ 36 - 1 - (2 ^ 36 - 1) / 2 ^ p ≡ 2 ^ 36 - 2 ^ (36 - p)
sign_fill p h = omega (arith, ones_shr 36 p h, pow_pos (36 - p))

module _ (n w : ℕ) (word : w < 2 ^ 36) where
  lowered : w / 2 ^ min n 36 < 2 ^ (36 - min n 36)
  lowered =
      let e : (36 - min n 36) + min n 36 ≡ 36 = omega arith in
      shr_lt {n = w} (36 - min n 36) (min n 36) (subst (λ k. w < 2 ^ k) (sym e) word)

  -- with a sign: ones on top of the shifted word
  ones_on_top : right_algebraic n w ≡ cond (negative 36 w) ((2 ^ min n 36 - 1) * 2 ^ (36 - min n 36)) 0 + w / 2 ^ min n 36
  ones_on_top =
      let e : min n 36 + (36 - min n 36) ≡ 36 = omega arith in
      let f : 36 - n ≡ 36 - min n 36 = omega arith in
      let t = subst (λ k. 2 ^ k - 2 ^ (36 - min n 36) ≡ (2 ^ min n 36 - 1) * 2 ^ (36 - min n 36)) e (high_ones (min n 36) (36 - min n 36)) in
      (λ i. cond (negative 36 w) ((ap (λ k. 2 ^ 36 - 2 ^ k) f ∙ t) i) 0 + sym (gone n w word) i)

  pub right_algebraic_fits : right_algebraic n w < 2 ^ 36
  right_algebraic_fits =
      let p = min n 36 in
      let e : p + (36 - p) ≡ 36 = omega arith in
      let top : (2 ^ p - 1) * 2 ^ (36 - p) + w / 2 ^ p < 2 ^ p * 2 ^ (36 - p) = digits_lt (ones_lt p) lowered in
      let whole : 2 ^ p * 2 ^ (36 - p) ≡ 2 ^ 36 = sym (pow-add 2 p (36 - p)) ∙ ap (λ k. 2 ^ k) e in
      let small = shr_le w p in
      subst (λ r. r < 2 ^ 36) (sym ones_on_top) (cond_both (negative 36 w) ((2 ^ p - 1) * 2 ^ (36 - p)) 0 (λ x. x + w / 2 ^ p < 2 ^ 36) (λ t. omega arith) (λ t. omega arith))

  -- as the code computes it
  pub by_signs : (signs : ℕ) → signs ≡ cond (negative 36 w) (2 ^ 36 - 1) 0 → signs - signs / 2 ^ min n 36 + w / 2 ^ min n 36 ≡ right_algebraic n w
  by_signs signs is =
      let p = min n 36 in
      let f : 36 - n ≡ 36 - p = omega arith in
      let filled : (b : Bool) → cond b (2 ^ 36 - 1) 0 - cond b (2 ^ 36 - 1) 0 / 2 ^ p ≡ cond b (2 ^ 36 - 2 ^ (36 - n)) 0 =
      λ b. elim b as (λ t. cond t (2 ^ 36 - 1) 0 - cond t (2 ^ 36 - 1) 0 / 2 ^ p ≡ cond t (2 ^ 36 - 2 ^ (36 - n)) 0) [ true ↦ sign_fill p (omega arith) ∙ sym (ap (λ k. 2 ^ 36 - 2 ^ k) f) | false ↦ omega arith ] in
      ap (λ x. x - x / 2 ^ p + w / 2 ^ p) is ∙ (λ i. filled (negative 36 w) i + gone n w word i)

  pub right_algebraic_moves : RightAlgebraicBits n w (right_algebraic n w)
  right_algebraic_moves i h =
      ⊎_elim
      (λ s.
      let r : right_algebraic n w ≡ w / 2 ^ n = ap (λ b. cond b (2 ^ 36 - 2 ^ (36 - n)) 0 + w / 2 ^ n) s.1 ∙ omega arith in
      ap (bit i) r ∙ right_logical_moves n w i ∙ ⊎_elim
      (λ (lt : i + n < 36). let e : i + n ≡ min (i + n) 35 = omega arith in ap (λ j. bit j w) e)
      (λ (le : 36 ≤ i + n). let e : 35 ≡ min (i + n) 35 = omega arith in bit_at_above w 36 (i + n) word le ∙ sym s.2 ∙ ap (λ j. bit j w) e)
      (cases_lt (i + n) 36))
      (λ s.
      let hi = 2 ^ min n 36 - 1 in
      let k = 36 - min n 36 in
      let r : right_algebraic n w ≡ hi * 2 ^ k + w / 2 ^ min n 36 = ones_on_top ∙ ap (λ b. cond b (hi * 2 ^ k) 0 + w / 2 ^ min n 36) s.1 in
      ap (bit i) r ∙ ⊎_elim
      (λ (lt : i + n < 36).
      let e : min n 36 + i ≡ min (i + n) 35 = omega arith in
      of_low i 1 k hi (w / 2 ^ min n 36) lowered (omega arith) ∙ high_end i 1 (min n 36) w ∙ ap (λ j. bit j w) e)
      (λ (le : 36 ≤ i + n).
      let e : i ≡ k + (i - k) = omega arith in
      let f : 35 ≡ min (i + n) 35 = omega arith in
      ap (λ j. bit j (hi * 2 ^ k + w / 2 ^ min n 36)) e ∙ of_high (i - k) 1 k hi (w / 2 ^ min n 36) lowered ∙ bit_at_ones (min n 36) (i - k) (omega arith) ∙ sym s.2 ∙ ap (λ j. bit j w) f)
      (cases_lt (i + n) 36))
      (signs w word)

-- the bits of a number that takes m bits
module _ (m a : ℕ) (fits : a < 2 ^ m) (takes : 2 ^ m ≤ 2 * a + 1) where
  leading_one : (k : ℕ) → m ≡ suc k → bit k a ≡ 1
  leading_one k e =
      let p : 2 ^ m ≡ 2 ^ k * 2 = ap (λ j. 2 ^ j) e ∙ pow-suc 2 k in
      let q : a / 2 ^ k ≡ 1 = div-eq_of_lt-le (2 ^ k) (omega arith) (omega arith) in
      ap (λ y. y % 2) q

-- a word without sign is its magnitude, one with it the complement of that
by_magnitude : (w : ℕ) → w < 2 ^ 36 → ((w ≡ magnitude 36 w) × (bit 35 w ≡ 0)) ⊎ ((w ≡ 2 ^ 36 - 1 - magnitude 36 w) × (bit 35 w ≡ 1))
by_magnitude w h =
    ⊎_elim
    (λ s. let t = s.1 in inl (grind (arith, nat_tests), s.2))
    (λ s. let t = s.1 in inr (grind (arith, nat_tests), s.2))
    (signs w h)

module _ (w : ℕ) (word : w < 2 ^ 36) where
  small : magnitude 36 w < 2 ^ 35
  small = ⊎_elim (λ s. let t = s.1 in let u = s.0 in grind (arith, nat_tests)) (λ s. let t = s.1 in let u = s.0 in grind (arith, nat_tests)) (signs w word)

  -- the bits that the magnitude has 0 are like the sign, those that it has 1 are not
  like : (j : ℕ) → j < 36 → bit j (magnitude 36 w) ≡ 0 → bit j w ≡ bit 35 w
  like j h z =
      ⊎_elim
      (λ s. ap (bit j) s.0 ∙ z ∙ sym s.1)
      (λ s. ap (bit j) s.0 ∙ complement_bit 36 j (magnitude 36 w) h (omega (arith, small)) ∙ ap (λ x. 1 - x) z ∙ sym s.1)
      (by_magnitude w word)

  unlike : (j : ℕ) → j < 36 → bit j (magnitude 36 w) ≡ 1 → bit 35 w ≡ bit j w → ⊥
  unlike j h o same =
      ⊎_elim
      (λ s. let e : bit j w ≡ 1 = ap (bit j) s.0 ∙ o in omega (arith, e, s.1, same))
      (λ s.
      let e : bit j w ≡ 0 = ap (bit j) s.0 ∙ complement_bit 36 j (magnitude 36 w) h (omega (arith, small)) ∙ ap (λ x. 1 - x) o in
      omega (arith, e, s.1, same))
      (by_magnitude w word)

  -- the leftmost bits after a turn by k
  first : (k : ℕ) → k ≤ 35 → bit 35 (left_circular k w) ≡ bit (35 - k) w
  first k h =
      let e : 35 ≡ (35 - k + k) % 36 = omega arith in
      ap (λ j. bit j (left_circular k w)) e ∙ left_circular_moves k w word (35 - k) (omega arith)

  second : (k : ℕ) → k ≤ 34 → bit 34 (left_circular k w) ≡ bit (34 - k) w
  second k h =
      let e : 34 ≡ (34 - k + k) % 36 = omega arith in
      ap (λ j. bit j (left_circular k w)) e ∙ left_circular_moves k w word (34 - k) (omega arith)

  module _ (m : ℕ) (bits : turn_count w + m ≡ 35) (fits : magnitude 36 w < 2 ^ m) (takes : 2 ^ m ≤ 2 * magnitude 36 w + 1) where
    least : (k : ℕ) → k < turn_count w → bit 35 (left_circular k w) ≡ bit 34 (left_circular k w)
    least k h =
        first k (omega arith) ∙ like (35 - k) (omega arith) (bit_at_above _ m (35 - k) fits (omega arith))
        ∙ sym (second k (omega arith) ∙ like (34 - k) (omega arith) (bit_at_above _ m (34 - k) fits (omega arith)))

    all_alike : m ≡ 0 → (w ≡ 0) ⊎ (w ≡ modulus 36)
    all_alike e =
        let z : magnitude 36 w ≡ 0 = omega (arith, subst (λ k. magnitude 36 w < 2 ^ k) e fits) in
        ⊎_elim (λ s. inl (s.0 ∙ z)) (λ s. inr (s.0 ∙ ap (λ x. 2 ^ 36 - 1 - x) z)) (by_magnitude w word)

    two_differ : 0 < m → Unlike (left_circular (turn_count w) w)
    two_differ h same =
        let n = turn_count w in
        let e : m ≡ suc (34 - n) = omega arith in
        let a : bit 35 w ≡ bit (35 - n) w = sym (like (35 - n) (omega arith) (bit_at_above _ m (35 - n) fits (omega arith))) in
        unlike (34 - n) (omega arith) (leading_one m _ fits takes (34 - n) e)
        (a ∙ sym (first n (omega arith)) ∙ same ∙ second n (omega arith))

    turned_is : LeastTurn w (left_circular (turn_count w) w) (turn_count w)
    turned_is = record {
      turn = refl;
      least = least;
      ends = ⊎_elim (λ (lt : 0 < m). inl (two_differ lt)) (λ (le : m ≤ 0). inr (omega arith, all_alike (omega arith))) (cases_lt 0 m);
    }

  pub least_turn : LeastTurn w (left_circular (turn_count w) w) (turn_count w)
  least_turn = let t = leading_length 35 (magnitude 36 w) small in turned_is t.0 t.1 t.2 t.3

  -- as the code counts, among 64 bits
  pub counted : count_leading_zeros 64 (magnitude 36 w) ≡ turn_count w + 29
  counted =
      let t = leading_length 35 (magnitude 36 w) small in
      sym (leading_unique 64 (magnitude 36 w) (turn_count w + 29) t.0 (omega (arith, t.1)) t.2 t.3)

  -- a turn by the count is the circular shift by it
  pub turn_whole : turned (turn_count w) w ≡ left_circular (turn_count w) w
  turn_whole =
      let few : turn_count w ≤ 35 = leading_le 35 (magnitude 36 w) in
      let same : turn_count w ≡ turn_count w % 36 = omega arith in
      ap (λ p. turned p w) same
