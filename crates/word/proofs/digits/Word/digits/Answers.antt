-- `Word::digits` meets its contract.
use Rattle.std.proofs.Common.{◌≡◌, ap, ◌∙◌, refl, get_or, map, rules, tests}
use Rattle.std.specs.List.{range_with_len}
use Rattle.std.proofs.lemmas.List.FromFn.{fill_by_all}
use Rattle.word.specs.Digits.{word_digits, reading}
use Rattle.word.proofs.Octal.{reading_back}
use Rattle.word.proofs.digits.Word.digits.Goals as goal

pub returns : goal.returns
unfolding word_digits
returns c =
    let digits = c.from_fn.result in
    let made = c.from_fn.ensures.items in
    let at_each : map (λ k. get_or digits k 0) (range_with_len 0 12) ≡ word_digits c.args.self.bits = search (rules, tests) in
    let d : digits ≡ word_digits c.args.self.bits = fill_by_all (λ k. get_or digits k 0) digits 12 0 made.long (λ k lt. refl) ∙ at_each in
    record { value = d; back = ap reading d ∙ reading_back c.args.self.bits c.args.self.fits }
