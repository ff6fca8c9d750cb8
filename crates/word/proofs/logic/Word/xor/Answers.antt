-- `Word::xor` meets its contract.
use Rattle.std.proofs.Common.{rules}
use Rattle.std.proofs.lemmas.Nat.{xor_lt}
use Rattle.word.proofs.logic.Word.xor.Goals as goal

pub invariant_of-result : goal.invariant_of-result
invariant_of-result c = search (rules, xor_lt 36)
