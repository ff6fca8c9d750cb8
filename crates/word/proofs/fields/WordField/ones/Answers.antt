-- `WordField::ones` meets its contract.
use Rattle.std.proofs.Common.{arith, pow_mono}
use Rattle.std.proofs.lemmas.Nat.{one_shl}
use Rattle.word.proofs.fields.WordField.ones.Goals as goal

pub returns-clause-bound : goal.returns-clause-bound
returns-clause-bound c =
    let width = c.args.self.field.width in
    let within = c.args.self.inside.within in
    omega (arith, one_shl width 64 (omega arith), pow_mono {i = width} {j = 36} (omega arith))
