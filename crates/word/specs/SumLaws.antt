-- What holds of the sums, signs, values and order of numbers of n bits, with m the modulus 2^n - 1, which is -0.
--   Addition     sums stay in n bits, commute, associate, are congruent to the plain sum, and are -0 only of two -0
--   Complements  a complement has n bits and the other sign, adds up to +0, and is undone by another; a magnitude has no sign
--   Values       signed values add up where there is no overflow, and stray where there is
--   Order        of two numbers one is greater; +0 is greater than -0; but for that pair the order is that of the signed values
--   SumLaws n    all of these at the width n
use Rattle.std.specs.Prelude.{◌≡◌, ℕ, ◌+◌, ◌%◌, ◌^◌, ◌<◌, true, false, not, ◌⊎◌, ◌+ℤ◌, ◌<ℤ◌, ◌≢◌}
use Rattle.word.specs.Sums.{modulus, sum, complement, negative, magnitude, overflows, value, greater}

pub record Addition (n m : ℕ) : Type 0 where
  pub stays_a_word : (a b : ℕ) → a < 2 ^ n → b < 2 ^ n → sum m a b < 2 ^ n
  pub commutes : (a b : ℕ) → sum m a b ≡ sum m b a
  pub associates : (a b c : ℕ) → a < 2 ^ n → b < 2 ^ n → c < 2 ^ n → sum m (sum m a b) c ≡ sum m a (sum m b c)
  pub congruent : (a b : ℕ) → sum m a b % m ≡ (a + b) % m
  pub minus_zero_of_two : (a b : ℕ) → a < 2 ^ n → b < 2 ^ n → sum m a b ≡ m → (a ≡ m) × (b ≡ m)
  pub minus_zeros : sum m m m ≡ m

pub record Complements (n m : ℕ) : Type 0 where
  pub stays_a_word : (a : ℕ) → complement m a < 2 ^ n
  pub cancels : (a : ℕ) → a < 2 ^ n → sum m a (complement m a) ≡ 0
  pub twice : (a : ℕ) → a < 2 ^ n → complement m (complement m a) ≡ a
  pub turns_the_sign : (a : ℕ) → a < 2 ^ n → negative n (complement m a) ≡ not (negative n a)
  pub magnitude_unsigned : (a : ℕ) → a < 2 ^ n → negative n (magnitude n a) ≡ false

pub record Values (n m : ℕ) : Type 0 where
  pub adds : (a b : ℕ) → a < 2 ^ n → b < 2 ^ n → overflows n a b ≡ false → value n (sum m a b) ≡ value n a +ℤ value n b
  pub strays : (a b : ℕ) → a < 2 ^ n → b < 2 ^ n → overflows n a b ≡ true → value n (sum m a b) ≢ value n a +ℤ value n b

pub record Order (n m : ℕ) : Type 0 where
  pub irreflexive : (a : ℕ) → greater n a a ≡ false
  pub transitive : (a b c : ℕ) → greater n a b ≡ true → greater n b c ≡ true → greater n a c ≡ true
  pub total : (a b : ℕ) → (a ≡ b) ⊎ ((greater n a b ≡ true) ⊎ (greater n b a ≡ true))
  pub zeros_apart : (0 ≢ m) × (greater n 0 m ≡ true)
  pub by_value : (a b : ℕ) → a < 2 ^ n → b < 2 ^ n → (a ≡ 0 → b ≢ m) → greater n a b ≡ true → value n b <ℤ value n a
  pub of_values : (a b : ℕ) → a < 2 ^ n → b < 2 ^ n → value n b <ℤ value n a → greater n a b ≡ true

pub record SumLaws (n : ℕ) : Type 0 where
  pub addition : Addition n (modulus n)
  pub complements : Complements n (modulus n)
  pub values : Values n (modulus n)
  pub order : Order n (modulus n)
