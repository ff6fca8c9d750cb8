-- `WordField::number` meets its contract.
use Rattle.std.proofs.lemmas.Nat.{and_mask}
use Rattle.word.proofs.fields.WordField.number.Goals as goal

pub returns : goal.returns
returns c = rw c.ones.ensures.value (and_mask _ c.args.self.field.width)
