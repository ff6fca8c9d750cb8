-- The laws of the total of a column. Assumes nothing.
use Rattle.std.proofs.Common.{◌≡◌, ℕ, ◌+◌, ◌-◌, ◌%◌, ◌^◌, ◌<◌, ◌≤◌, List, [], ◌∷◌, ◌+ℤ◌, sum_by, fold, refl, sym, ap, ◌∙◌, ⊎_elim, mod-eq_of_lt, arith}
use native.Mathlib.Nat.{add-mod_right}
use Rattle.std.proofs.Math.IntN.{+ℤ_idl, +ℤ_idr, +ℤ_assoc}
use Rattle.std.proofs.Math.Nat.{mod-add-mod}
use Rattle.std.proofs.lemmas.Bool.Decides.{nat_tests}
use Rattle.std.proofs.lemmas.List.Elements.{All-from_recursion, recursion_from_All}
use Rattle.std.proofs.lemmas.List.Sorted.{All-permutation, sum_by-IsPermutation}
use Rattle.word.specs.Sums.{modulus, sum, value}
use Rattle.word.proofs.SumLaws.{plain_or_less, sum_laws}
use Rattle.tally.specs.Tally.{plus, total}
use Rattle.column.specs.Column.{Words}
use Rattle.tally.specs.TotalLaws.{value_sum, Calm, TotalLaws}

-- a register below the modulus stays below it
sum-lt : (m s w : ℕ) → s < m → w ≤ m → sum m s w < m
sum-lt m s w h k = grind (arith, nat_tests)

-- a register below the modulus stays below it, and what is added after it keeps its remainder
pub step : (m s w p : ℕ) → s < m → w ≤ m → (sum m s w < m) × ((sum m s w + p) % m ≡ (s + (w + p)) % m)
step m s w p h k = (
  sum-lt m s w h k,
  ⊎_elim
      (λ x. ap (λ t. (t + p) % m) x.1 ∙ ap (λ t. t % m) {x = s + w + p} {y = s + (w + p)} (omega arith))
      (λ x. ap (λ t. (t + p) % m) x.1 ∙ sym (add-mod_right (s + w - m + p) m) ∙ ap (λ t. t % m) {x = s + w - m + p + m} {y = s + (w + p)} (omega (arith, x.0)))
      (plain_or_less m s w),
)

-- a word added to a remainder gives the remainder of the plain sum
plus-mod : (n w : ℕ) → w < 2 ^ 36 → plus (n % modulus 36) w ≡ (n + w) % modulus 36
plus-mod n w h =
    sym (mod-eq_of_lt (sum-lt (modulus 36) (n % modulus 36) w (omega arith) (omega arith)))
    ∙ (sum_laws 36 (omega arith)).addition.congruent (n % modulus 36) w
    ∙ mod-add-mod n (modulus 36) w

-- from a remainder the words come to the remainder of the plain sum
total-mod : (n : ℕ) (ws : List ℕ) → Words ws → total (n % modulus 36) ws ≡ fold (λ m w. m + w) n ws % modulus 36
total-mod n [] f = refl
total-mod n (w ∷ ws) f = ap (λ s. total s ws) (plus-mod n w f.0) ∙ total-mod (n + w) ws f.1

remainder : (ws : List ℕ) → Words ws → total 0 ws ≡ sum_by (λ w. w) ws % modulus 36
remainder = total-mod 0

-- where no sum overflows, signed values add up
value-total : (s : ℕ) (ws : List ℕ) → s < 2 ^ 36 → Words ws → Calm s ws → value 36 (total s ws) ≡ value 36 s +ℤ value_sum ws
value-total s [] h f c = sym (+ℤ_idr (value 36 s))
value-total s (w ∷ ws) h f c =
    let laws = sum_laws 36 (omega arith) in
    value-total (plus s w) ws (laws.addition.stays_a_word s w h f.0) f.1 c.1
    ∙ ap (λ t. t +ℤ value_sum ws) (laws.values.adds s w h f.0 c.0)
    ∙ +ℤ_assoc (value 36 s) (value 36 w) (value_sum ws)

pub total_laws : TotalLaws
total_laws = record {
  remainder = remainder;
  values = λ ws f c. value-total 0 ws (omega arith) f c ∙ +ℤ_idl (value_sum ws);
  any_order = λ ws vs f h.
      let P = λ (w : ℕ). w < 2 ^ 36 in
      remainder vs (recursion_from_All P vs (All-permutation P ws vs h (All-from_recursion P ws f)))
      ∙ ap (λ t. t % modulus 36) (sum_by-IsPermutation (λ w. w) ws vs h)
      ∙ sym (remainder ws f);
}
