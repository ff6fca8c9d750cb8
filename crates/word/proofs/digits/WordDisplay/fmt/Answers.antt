-- `WordDisplay::fmt` meets its contract.
use Rattle.std.proofs.Common.{rules, IsUtf8, sym, subst}
use Rattle.word.proofs.Octal.{utf8_word}
use Rattle.word.proofs.digits.WordDisplay.fmt.Goals as goal

pub unwrap-text-requires : goal.unwrap-text-requires
unwrap-text-requires g c = let text : IsUtf8 c.digits-digits.result = subst IsUtf8 (sym c.digits-digits.ensures.value) (utf8_word c.args.self.now.bits) in search rules
