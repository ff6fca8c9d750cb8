-- `digits_ahead` meets its contract.
use Rattle.std.proofs.Common.{◌≡◌, true, false, rules, tests, sym, refl, ◌∙◌, arith}
use Rattle.std.proofs.lemmas.Iterator.{IsFirst-from_position, YieldsList-from_slice, index_from_first}
use Rattle.std.proofs.lemmas.Bool.Decides.{nat_tests}
use Rattle.word.specs.Digits.{is_octal, front}
use Rattle.word.proofs.digits.digits_ahead.Goals as goal

pub returns : goal.returns
returns c =
    let first = IsFirst-from_position _ _ _ (λ b. is_octal b ≡ false) (λ b. is_octal b ≡ true) c.position.ensures.ran (YieldsList-from_slice c.args.text.now cc) (λ x q k. search (rules, tests)) (λ x q k. search (rules, tests)) in
    c.unwrap_or.ensures ∙ sym (index_from_first front (λ b. is_octal b ≡ false) (λ b. is_octal b ≡ true) refl (λ b bs no. grind (arith, nat_tests)) (λ b bs yes. grind (arith, nat_tests)) _ _ first)
