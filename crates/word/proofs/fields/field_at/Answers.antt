-- `field_at` meets its contract.
use Rattle.std.proofs.Common.{◌≡◌, ℕ, ◌+◌, ◌<◌, true, ◌&&◌, nat_lt, nat_le, get_or, refl, arith}
use Rattle.std.proofs.lemmas.Bool.Decides.{nat_tests}
use Rattle.std.proofs.lemmas.List.Elements.{All-get_or}
use Rattle.std.proofs.lemmas.List.Sums.{AllPass-from_list_all}
use Rattle.word.specs.declared.fields.Fill.{Fill}
use Rattle.word.specs.declared.fields.TheConstants.{FIELDS}
use Rattle.word.specs.Parts.{Inside}
use Rattle.word.proofs.fields.field_at.Goals as goal

-- each row of the table lies in a word, by one test over all of them
row_inside : (j : ℕ) (d : ℕ × ℕ × Fill) → j < 14 → let row = get_or FIELDS j d in Inside (record { start = row.0; width = row.1; fill = row.2 })
row_inside j d known =
    let test = λ (row : ℕ × ℕ × Fill). nat_lt 0 row.1 && nat_le (row.0 + row.1) 36 in
    let passes : test (get_or FIELDS j d) ≡ true = All-get_or (λ row. test row ≡ true) FIELDS j d known (AllPass-from_list_all test FIELDS refl) in
    record { some = grind (arith, nat_tests); within = grind (arith, nat_tests) }

pub invariant_of-result : goal.invariant_of-result
invariant_of-result c = record { inside = row_inside c.args.part.number _ (omega arith) }
