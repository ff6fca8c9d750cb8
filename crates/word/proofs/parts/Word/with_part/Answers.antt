-- `Word::with_part` meets its contract.
use Rattle.word.proofs.FieldLaws.{store_leaves}
use Rattle.word.proofs.parts.Word.with_part.Goals as goal

pub returns-clause-bits : goal.returns-clause-bits
returns-clause-bits c = rw (c.stored.ensures, c.field_at.ensures) (store_leaves _ _ _)
