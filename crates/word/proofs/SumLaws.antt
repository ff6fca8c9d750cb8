-- The laws of sums at every width. Assumes nothing.
use Rattle.std.proofs.Common.{◌≡◌, ℕ, ◌+◌, ◌-◌, ◌%◌, ◌^◌, ◌<◌, ◌≤◌, Bool, true, false, cond, not, ◌&&◌, leb, ◌⊎◌, ℤ, pos, ◌+ℤ◌, neg_ℤ, MatchBool, sym, ap, ◌∙◌, ⊎_elim, arith, pow_pos}
use native.Mathlib.Nat.{mod-eq-sub-mod}
use Rattle.std.proofs.lemmas.Int.{ints}
use Rattle.std.proofs.lemmas.Bool.Decides.{nat_tests, when_true, when_false}
use Rattle.word.specs.Sums.{same, modulus, sum, negative, overflows, value}
use Rattle.word.proofs.Bitwise.{even}
use Rattle.word.specs.SumLaws.{Addition, Complements, Values, Order, SumLaws}

-- a sum is the plain one, or the plain one less the modulus
pub plain_or_less : (m a b : ℕ) → ((a + b < m) × (sum m a b ≡ a + b)) ⊎ ((m ≤ a + b) × (sum m a b ≡ a + b - m))
plain_or_less m a b = grind (arith, nat_tests)

congruent : (m a b : ℕ) → sum m a b % m ≡ (a + b) % m
congruent m a b = ⊎_elim (λ k. ap (λ x. x % m) k.1) (λ k. ap (λ x. x % m) k.1 ∙ sym (mod-eq-sub-mod k.0)) (plain_or_less m a b)

sign_told : (h a : ℕ) → MatchBool (leb h a) (h ≤ a) (a < h)
sign_told h a = grind (arith, nat_tests)

signed_by : Bool → ℕ → ℕ → ℤ
signed_by x m a = cond x (neg_ℤ (pos (m - a))) (pos a)

-- by the signs x, y and z of a, b and their sum s: the values add up exactly where there is no overflow
added : (x y z : Bool) (h m a b s : ℕ) → MatchBool x (h ≤ a) (a < h) → MatchBool y (h ≤ b) (b < h) → MatchBool z (h ≤ s) (s < h) → m + 1 ≡ h + h → a ≤ m → b ≤ m → ((a + b < m) × (s ≡ a + b)) ⊎ ((m ≤ a + b) × (s ≡ a + b - m)) → let P = signed_by z m s ≡ signed_by x m a +ℤ signed_by y m b in MatchBool (same x y && not (same x z)) (P → ⊥) P
unfolding signed_by
added true true true h m a b s hx hy hz e ha hb k = grind (arith, ints)
added true true false h m a b s hx hy hz e ha hb k = λ q. grind (arith, ints)
added true false true h m a b s hx hy hz e ha hb k = grind (arith, ints)
added true false false h m a b s hx hy hz e ha hb k = grind (arith, ints)
added false true true h m a b s hx hy hz e ha hb k = grind (arith, ints)
added false true false h m a b s hx hy hz e ha hb k = grind (arith, ints)
added false false true h m a b s hx hy hz e ha hb k = λ q. grind (arith, ints)
added false false false h m a b s hx hy hz e ha hb k = grind (arith, ints)

module _ (n : ℕ) (wide : 0 < n) where
  addition : Addition n (modulus n)
  addition =
      let e = even n wide in
      let p = pow_pos (n - 1) in
      record {
        stays_a_word = λ a b ha hb. grind (arith, nat_tests);
        commutes = λ a b. grind (arith, nat_tests);
        associates = λ a b c ha hb hc. grind (arith, nat_tests);
        congruent = λ a b. congruent (modulus n) a b;
        minus_zero_of_two = λ a b ha hb s. grind (arith, nat_tests);
        minus_zeros = grind (arith, nat_tests);
      }

  complements : Complements n (modulus n)
  complements =
      let e = even n wide in
      let p = pow_pos (n - 1) in
      record {
        stays_a_word = λ a. omega arith;
        cancels = λ a ha. grind (arith, nat_tests);
        twice = λ a ha. omega arith;
        turns_the_sign = λ a ha. grind (arith, nat_tests);
        magnitude_unsigned = λ a ha. grind (arith, nat_tests);
      }

  either : (a b : ℕ) → a < 2 ^ n → b < 2 ^ n → let P = value n (sum (modulus n) a b) ≡ value n a +ℤ value n b in MatchBool (overflows n a b) (P → ⊥) P
  unfolding signed_by
  either a b ha hb =
      let h = 2 ^ (n - 1) in
      let m = modulus n in
      let s = sum m a b in
      let e = even n wide in
      let p = pow_pos (n - 1) in
      added (negative n a) (negative n b) (negative n s) h m a b s (sign_told h a) (sign_told h b) (sign_told h s) (omega arith) (omega arith) (omega arith) (plain_or_less m a b)

  values : Values n (modulus n)
  values = record {
    adds = λ a b ha hb o. when_false _ _ o (either a b ha hb);
    strays = λ a b ha hb o. when_true _ _ o (either a b ha hb);
  }

  order : Order n (modulus n)
  order =
      let e = even n wide in
      let p = pow_pos (n - 1) in
      record {
        irreflexive = λ a. grind (arith, nat_tests);
        transitive = λ a b c g h. grind (arith, nat_tests);
        total = λ a b. grind (arith, nat_tests);
        zeros_apart = (λ z. omega arith, grind (arith, nat_tests));
        by_value = λ a b ha hb z g. grind (arith, ints, nat_tests);
        of_values = λ a b ha hb v. grind (arith, ints, nat_tests);
      }

pub sum_laws : (n : ℕ) → 0 < n → SumLaws n
sum_laws n wide = record { addition = addition n wide; complements = complements n wide; values = values n wide; order = order n wide }
