-- `WordField::stored` meets its contract.
use Rattle.std.proofs.Common.{arith}
use Rattle.word.proofs.FieldLaws.{stored_by_code, stored_fits}
use Rattle.word.proofs.fields.WordField.stored.Goals as goal

pub overflow_add-result : goal.overflow_add-result
overflow_add-result c = let small = stored_fits c.args.self.field c.args.word.bits c.args.value.bits c.args.self.inside c.args.word.fits in record { fits = rw (c.number.ensures, c.ones.ensures.value, stored_by_code _ c.args.word.bits _ c.args.self.inside) (omega arith) }

pub invariant_of-result : goal.invariant_of-result
invariant_of-result c = record { fits = rw (c.number.ensures, c.ones.ensures.value, stored_by_code _ c.args.word.bits _ c.args.self.inside) (stored_fits _ _ _ c.args.self.inside c.args.word.fits) }

pub returns : goal.returns
returns c = rw (c.number.ensures, c.ones.ensures.value) (stored_by_code _ _ _ c.args.self.inside)
