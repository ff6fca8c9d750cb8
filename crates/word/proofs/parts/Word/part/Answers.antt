-- `Word::part` meets its contract.
use Rattle.std.proofs.Common.{subst}
use Rattle.word.specs.Parts.{Inside}
use Rattle.word.proofs.FieldLaws.{read_gives}
use Rattle.word.proofs.parts.Word.part.Goals as goal

pub returns-clause-bits : goal.returns-clause-bits
returns-clause-bits c =
    let named = c.field_at-field.ensures in
    rw (c.filled.ensures, c.number.ensures, named) (read_gives _ _ (subst Inside named c.field_at-field.result.inside))
