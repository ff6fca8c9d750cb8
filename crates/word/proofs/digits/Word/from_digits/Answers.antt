-- `Word::from_digits` meets its contract.
use Rattle.std.proofs.Common.{ap, ◌∙◌, arith}
use Rattle.std.proofs.lemmas.List.Sums.{prefix_len-le-length}
use Rattle.word.specs.Digits.{word_digits, is_octal}
use Rattle.word.proofs.Octal.{written_back}
use Rattle.word.proofs.digits.Word.from_digits.Goals as goal

pub number_written-requires-clause-digits : goal.number_written-requires-clause-digits
number_written-requires-clause-digits c = omega (arith, prefix_len-le-length is_octal c.args.text.now)

pub returns-else-text-gt-WORD_DIGITS-clause-back : goal.returns-else-text-gt-WORD_DIGITS-clause-back
returns-else-text-gt-WORD_DIGITS-clause-back c =
    ap word_digits c.number_written.ensures.value
    ∙ written_back c.args.text.now (omega arith) (omega (arith, prefix_len-le-length is_octal c.args.text.now))
